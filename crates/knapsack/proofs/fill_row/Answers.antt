-- `knapsack::fill_row` meets its contract: the row so far is made label by label, and is capped, which the next asks (`climbed_capped`).
use mathlib.Core.Path.{refl, ◌∙◌}
use native.Mathlib.Omega.{arith}
use Rattle.std.proofs.Common.{rules}
use Rattle.rows.proofs.Rounds.{rounds_none, rounds_more, rounds_all}
use Rattle.knapsack.proofs.FreeRow.{climbed_capped}
use Rattle.knapsack.proofs.fill_row.Goals as goal

pub loop-i-init : goal.loop-i-init
loop-i-init c = rounds_none (search rules)

pub add_any_number-requires-clause-capped : goal.add_any_number-requires-clause-capped
add_any_number-requires-clause-capped c =
    let l = c.loop-i in
    rw l.auto.row (climbed_capped _ _ _ l.i l.row (rw c.fill.auto.self c.requires) (omega arith) l.invariant.made)

pub loop-i-preserved : goal.loop-i-preserved
loop-i-preserved c =
    let up = c.add_any_number in
    rounds_more c.loop-i.invariant (omega arith) up.auto.row (rw (c.at-w.ensures, c.at-v.ensures) at up.ensures)

pub returns : goal.returns
returns c =
    let d = c.loop-i.invariant in
    rounds_all _ _ d (omega arith) refl (d.long ∙ c.fill.auto.self)
