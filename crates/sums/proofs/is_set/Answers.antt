-- `sums::is_set` meets its contract: bit t mod 64 of word t / 64 is 1.
use borrow.Author.Rules.{rules}
use Rattle.meaning.specs.Sums.{bit}
use Rattle.sums.specs.Words.{is_set}
use Rattle.sums.proofs.is_set.Goals as goal

pub returns : goal.returns
unfolding bit is_set
returns c = search rules
