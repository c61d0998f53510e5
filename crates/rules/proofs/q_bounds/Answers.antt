-- `rules::q_bounds` meets its contract: the bounds are those of the definition.
use mathlib.Core.Path.{refl}
use Rattle.meaning.specs.Bounds.{least_q, most_q}
use Rattle.rules.proofs.q_bounds.Goals as goal

pub returns : goal.returns
unfolding least_q most_q
returns c = (refl, refl)
