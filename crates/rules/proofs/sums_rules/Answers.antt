-- `rules::sums_rules` meets its contract: the rules of weights alone, with nothing asked of their sum.
use mathlib.Core.Bool.{false}
use Rattle.meaning.specs.Bounds.{most_labels, most_budget}
use Rattle.meaning.specs.Refusals.{rules_of}
use Rattle.rules.specs.Ruling.{rule_from}
use Rattle.rules.proofs.sums_rules.Goals as goal

pub returns : goal.returns
unfolding most_budget most_labels rule_from rules_of
returns c = let its = c.weight_rules.ensures false in (its, its)
