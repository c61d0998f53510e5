-- `rules::most_of_one` meets its contract.
use mathlib.Core.Path.{refl}
use Rattle.meaning.specs.Bounds.{most_of_one}
use Rattle.rules.proofs.most_of_one.Goals as goal

pub returns : goal.returns
unfolding most_of_one
returns c = refl
