-- `Cutting::fill` meets its contract: in the first row total 0 alone is reached, and then a label more each turn (`filled_next`).
use mathlib.Core.Path.{sym, ap, ◌∙◌}
use Prim.Native.Nat.{ℕ, ◌*◌, ◌/◌, ◌≤◌}
use native.Mathlib.Nat.{zero-mul}
use native.Mathlib.Omega.{arith}
use lib.Seq.{length-take-le}
use Rattle.meaning.specs.Lists.{at}
use Rattle.meaning.specs.Cells.{no_way}
use Rattle.meaning.specs.Cuts.{cut_by}
use Rattle.rows.specs.Rows.{FirstAlone}
use Rattle.rows.proofs.Parts.{front_at, front_long}
use Rattle.stated.proofs.Measuring.{cut_at}
use Rattle.stated.proofs.Filling.{row_none, first_within, next_within, filled_none, filled_next}
use Rattle.stated.proofs.Cutting.fill.Goals as goal

pub loop-i-init : goal.loop-i-init
loop-i-init c =
    let s = c.args.self.now in
    let weights = s.weights.now in
    let lent = length-take-le s.width c.args.cells.now (first_within s.budget weights s.width c.requires.roomy) in
    let row = c.mark_rest.new.row in
    let f : FirstAlone 0 no_way s.width row = rw lent at c.mark_rest.ensures in
    let same = front_at row c.args.cells.now s.width (c.mark_rest.auto.row ∙ lent) in (
      omega (arith, ap (λ (r : ℕ). r * s.width) (row_none s.budget weights), zero-mul s.width),
      filled_none s.budget weights (cut_by s.divisor s.values.now) s.width _
          (record { first = same 0 c.requires.roomy.wide ∙ f.first; others = λ t pos h. same t h ∙ f.others t pos h }),
    )

pub add_label-from-requires : goal.add_label-from-requires
add_label-from-requires c =
    let s = c.args.self.now in
    let weights = s.weights.now in
    let l = c.loop-i in
    let room = first_within s.budget weights s.width c.requires.roomy in
    let lent = length-take-le s.width c.args.cells.now room in
    let long = front_long c.mark_rest.new.row c.args.cells.now s.width (c.mark_rest.auto.row ∙ lent) room in (
      c.requires.budget_le_most_budget.0,
      λ w-light.
          let light : at weights l.i ≤ s.budget = rw c.at-w.ensures at w-light in (
            omega (
              arith,
              ap (λ (v : ℕ). v / s.divisor) c.at-v.ensures,
              cut_at s.divisor s.values.now l.i,
              c.requires.roomy.within l.i (omega arith) light,
            ),
            omega (arith, long, l.auto.cells, l.invariant.0, next_within s.budget weights s.width c.requires.roomy l.i (omega arith) light),
          ),
    )

pub loop-i-preserved : goal.loop-i-preserved
loop-i-preserved c =
    let s = c.args.self.now in
    let l = c.loop-i in
    let cut_is = ap (λ (v : ℕ). v / s.divisor) c.at-v.ensures ∙ sym (cut_at s.divisor s.values.now l.i) in
    let next = filled_next s.budget s.weights.now (cut_by s.divisor s.values.now) s.width c.requires.roomy.wide l.i (omega arith) l.invariant.0
    c.at-w.ensures cut_is c.add_label-from.ensures l.invariant.1 in
    (next.1, next.0)
