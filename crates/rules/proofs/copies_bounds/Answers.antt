-- `rules::copies_bounds` meets its contract: the bounds are those of the definition.
use mathlib.Core.Path.{refl}
use Rattle.meaning.specs.Bounds.{most_copies, least_copies}
use Rattle.rules.proofs.copies_bounds.Goals as goal

pub returns : goal.returns
unfolding least_copies most_copies
returns c = (refl, refl)
