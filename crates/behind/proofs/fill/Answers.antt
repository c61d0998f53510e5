-- `behind::fill` meets its contract: total 0 alone with no labels, and then a label more each turn.
use mathlib.Core.Path.{refl, ◌∙◌}
use native.Mathlib.Numerals.{add-one}
use native.Mathlib.Omega.{arith}
use Rattle.rows.proofs.Rounds.{rounds_none, rounds_more, rounds_all}
use Rattle.behind.proofs.fill.Goals as goal

pub loop-i-init : goal.loop-i-init
loop-i-init c = let row = c.mark_rest in rounds_none (rw row.auto.row row.ensures)

pub loop-i-preserved : goal.loop-i-preserved
loop-i-preserved c = rounds_more c.loop-i.invariant (omega arith) c.add_label.auto.row (rw (c.at.ensures, add-one) at c.add_label.ensures)

pub returns : goal.returns
returns c =
    let d = c.loop-i.invariant in
    rounds_all _ _ d (omega arith) refl (d.long ∙ c.mark_rest.auto.row)
