-- `Cutting::trace_back` meets its contract: the trace has come back to the row of the first i labels, and the picks from i on are what it found.
use mathlib.Core.Path.{sym, ap, ◌∙◌}
use Prim.Native.Nat.{ℕ, ◌-◌, ◌/◌, ◌≤◌}
use native.Mathlib.Omega.{arith}
use lib.ListN.{length}
use lib.Seq.{drop-length}
use Rattle.stated.specs.ReadOff.{begin}
use Rattle.stated.proofs.Measuring.{cut_at}
use Rattle.stated.proofs.Filling.{last_row, cell_there, row_past}
use Rattle.stated.proofs.Tracing.{turned}
use Rattle.stated.proofs.Cutting.trace_back.Goals as goal

pub loop-i-init : goal.loop-i-init
loop-i-init c =
    let s = c.args.self.now in
    let n = c.requires.divisor_nonzero.1.1.0 in
    let last = last_row s.budget s.weights.now s.width c.requires.roomy.0 in
    (rw (← n) (omega (arith, last)), omega (arith, last), c.requires.divisor_nonzero.1.1.1, rw (n, drop-length c.args.picks.now) begin)

pub row_before-before-requires : goal.row_before-before-requires
row_before-before-requires c =
    let s = c.args.self.now in
    let l = c.loop-i in
    let few : l.i ≤ length s.weights.now = omega (arith, c.requires.divisor_nonzero.1.1.0) in
    row_past s.budget s.weights.now s.width l.i l.row c.at-w.result (omega arith) few c.at-w.ensures l.invariant.0

pub bounds-cells-row : goal.bounds-cells-row
bounds-cells-row c =
    let s = c.args.self.now in
    let l = c.loop-i in
    let few : l.i ≤ length s.weights.now = omega (arith, c.requires.divisor_nonzero.1.1.0) in
    cell_there s.budget s.weights.now s.width c.requires.roomy.0 l.i l.row l.t few l.invariant.0 l.invariant.2

pub overflow_sub-t : goal.overflow_sub-t
overflow_sub-t c =
    let s = c.args.self.now in
    let l = c.loop-i in
    let few : l.i ≤ length s.weights.now = omega (arith, c.requires.divisor_nonzero.1.1.0) in
    let cut_is = ap (λ (v : ℕ). v / s.divisor) c.at-v.ensures ∙ sym (cut_at s.divisor s.values.now (l.i - 1)) in
    let turn = turned c.requires.roomy.1 (omega arith) few (omega arith) l.invariant.2 l.invariant.0 l.invariant.3 c.at-w.ensures cut_is
    c.row_before-before.ensures c.differ-x.ensures in
    turn.within

pub loop-i-preserved : goal.loop-i-preserved
loop-i-preserved c =
    let s = c.args.self.now in
    let l = c.loop-i in
    let few : l.i ≤ length s.weights.now = omega (arith, c.requires.divisor_nonzero.1.1.0) in
    let cut_is = ap (λ (v : ℕ). v / s.divisor) c.at-v.ensures ∙ sym (cut_at s.divisor s.values.now (l.i - 1)) in
    let turn = turned c.requires.roomy.1 (omega arith) few (omega arith) l.invariant.2 l.invariant.0 l.invariant.3 c.at-w.ensures cut_is
    c.row_before-before.ensures c.differ-x.ensures in
    (turn.before_is, omega (arith, l.invariant.1, c.row_before-before.ensures), omega (arith, l.invariant.2), turn.trace)
