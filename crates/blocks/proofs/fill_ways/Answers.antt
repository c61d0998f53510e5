-- `blocks::fill_ways` meets its contract: the row so far is grown size by size, from one in which amount 0 alone has a way.
use mathlib.Core.Path.{refl, ◌∙◌}
use native.Mathlib.Omega.{arith}
use Rattle.rows.proofs.Rounds.{rounds_none, rounds_more, rounds_all}
use Rattle.blocks.proofs.fill_ways.Goals as goal

pub loop-i-init : goal.loop-i-init
loop-i-init c = let words = c.first_alone in rounds_none (rw words.auto.words words.ensures)

pub loop-i-preserved : goal.loop-i-preserved
loop-i-preserved c = rounds_more c.loop-i.invariant (omega arith) c.count.auto.words (rw c.at.ensures at c.count.ensures)

pub returns : goal.returns
returns c =
    let d = c.loop-i.invariant in
    rounds_all _ _ d (omega arith) refl (d.long ∙ c.first_alone.auto.words)
