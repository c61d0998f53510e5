-- `sums::fill` meets its contract: total 0 alone with no labels, and then a label more each turn.
use mathlib.Core.Path.{refl, ◌∙◌}
use native.Mathlib.Omega.{arith}
use Rattle.rows.proofs.Rounds.{rounds_none, rounds_more, rounds_all}
use Rattle.sums.proofs.fill.Goals as goal

pub loop-i-init : goal.loop-i-init
loop-i-init c = let words = c.first_alone in rounds_none (rw words.auto.words words.ensures)

pub loop-i-preserved : goal.loop-i-preserved
loop-i-preserved c =
    rounds_more c.loop-i.invariant (omega arith) c.add_label.auto.words (rw c.at.ensures at c.add_label.ensures)

pub returns : goal.returns
returns c =
    let d = c.loop-i.invariant in
    rounds_all _ _ d (omega arith) refl (d.long ∙ c.first_alone.auto.words)
