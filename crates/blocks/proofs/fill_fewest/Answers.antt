-- `blocks::fill_fewest` meets its contract: the row so far is grown size by size, from one in which amount 0 shows 0 and all others the mark.
use mathlib.Core.Path.{refl, ◌∙◌}
use native.Mathlib.Omega.{arith}
use Rattle.rows.proofs.Rounds.{rounds_none, rounds_more, rounds_all}
use Rattle.blocks.proofs.fill_fewest.Goals as goal

pub loop-i-init : goal.loop-i-init
loop-i-init c = let row = c.mark_rest in rounds_none (rw row.auto.row row.ensures)

pub loop-i-preserved : goal.loop-i-preserved
loop-i-preserved c = rounds_more c.loop-i.invariant (omega arith) c.lay.auto.row (rw c.at.ensures at c.lay.ensures)

pub returns : goal.returns
returns c =
    let d = c.loop-i.invariant in
    rounds_all _ _ d (omega arith) refl (d.long ∙ c.mark_rest.auto.row)
