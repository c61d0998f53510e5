-- `light::trace_bits` meets its contract: the trace has come back to label i, and the picks from i on are the bits that it read (`bits_more`).
use Prim.Native.Nat.{◌-◌, ◌*◌, ◌≤◌}
use native.Mathlib.Omega.{arith}
use lib.Seq.{drop-length}
use Rattle.meaning.specs.Bounds.{most_budget}
use Rattle.light.specs.Labels.{begun}
use Rattle.light.proofs.Picks.{bits_more}
use Rattle.light.proofs.trace_bits.Goals as goal

pub loop-i-init : goal.loop-i-init
loop-i-init c = (omega arith, rw (c.requires.budget_le_most_budget.1.1.1, drop-length c.args.picks.now) begun)

pub overflow_mul-c : goal.overflow_mul-c
unfolding most_budget
overflow_mul-c c =
    let l = c.loop-i in
    let set = c.requires.by_index (l.i - 1) l.c (omega arith) (omega arith) in
    let fits : c.at-w.result * c.bit_at-x.result ≤ l.c = rw (c.at-w.ensures, c.bit_at-x.ensures) set in
    omega (arith, fits)

pub loop-i-preserved : goal.loop-i-preserved
loop-i-preserved c =
    let l = c.loop-i in
    let fits = c.requires.by_index (l.i - 1) l.c (omega arith) (omega arith) in (
      omega arith,
      rw c.at-w.ensures
          (bits_more _ _ _ _ _ l.i l.c _ l.picks (omega arith) (omega arith) l.invariant.1 c.bit_at-x.ensures (rw c.bit_at-x.ensures fits)),
    )
