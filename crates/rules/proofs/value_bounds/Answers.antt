-- `rules::value_bounds` meets its contract: from the kind's least value to the one bound of all values.
use mathlib.Core.Path.{refl}
use Rattle.meaning.specs.Bounds.{most_value}
use Rattle.rules.proofs.value_bounds.Goals as goal

pub returns : goal.returns
unfolding most_value
returns c = (refl, refl)
