-- `rules::shares_rules` meets its contract: the rules of weights alone, with a sum that has to be positive.
use mathlib.Core.Bool.{true}
use Rattle.meaning.specs.Bounds.{most_claims, most_shared}
use Rattle.meaning.specs.Refusals.{rules_of}
use Rattle.rules.specs.Ruling.{rule_from}
use Rattle.rules.proofs.shares_rules.Goals as goal

pub returns : goal.returns
unfolding most_claims most_shared rule_from rules_of
returns c = c.weight_rules.ensures true
