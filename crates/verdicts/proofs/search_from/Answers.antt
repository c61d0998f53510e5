-- `verdicts::search_from` meets its contract.
use mathlib.Core.Path.{sym, ◌∙◌}
use Rattle.verdicts.proofs.LowCells.{from_start, from_end}
use Rattle.verdicts.proofs.search_from.Goals as goal

pub returns-then-is_low : goal.returns-then-is_low
returns-then-is_low c = let a = c.args in from_start a.from a.end (sym c.is_low.ensures ∙ c.if-is_low.true)

pub returns : goal.returns
returns c = from_end _ _ (sym c.is_low.ensures ∙ c.if-is_low.false)
