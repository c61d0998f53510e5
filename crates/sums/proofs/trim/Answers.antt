-- `sums::trim` meets its contract: the last word loses the bits above the budget.
use Rattle.sums.proofs.Words.{trimmed}
use Rattle.sums.proofs.trim.Goals as goal

pub returns : goal.returns
returns c = let a = c.args in trimmed a.words.now a.budget c.requires
