-- `rules::weight_rules` meets its contract: field by field, whether or not a positive sum is asked for.
use mathlib.Core.Path.{refl}
use Rattle.rules.specs.Ruling.{rules_from}
use Rattle.meaning.specs.Refusals.{weight_rules}
use Rattle.rules.proofs.weight_rules.Goals as goal

pub returns : goal.returns
unfolding rules_from weight_rules
returns c needs_sum = refl
