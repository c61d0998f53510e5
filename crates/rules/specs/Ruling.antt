-- The rules of a kind as the code holds them.
-- Assumes nothing.
use Rattle.std.specs.Prelude.{ℕ, Bool, false, List}
use Rattle.meaning.specs.Refusals as meaning
use Rattle.rules.specs.declared.WeightRule.{WeightRule}
use Rattle.rules.specs.declared.WeightRule.TheVariants.{Positive, Ascending, Anything}
use Rattle.rules.specs.declared.Rules.{Rules}

-- the test of a rule on weights
unfoldable pub rule_from : WeightRule → List ℕ → Bool
rule_from Positive = meaning.positive
rule_from Ascending = meaning.ascending_from 1
rule_from Anything = meaning.anything

-- the rules that the code's are, beside whether the weights' sum has to be positive, and of a kind without q: both are asked elsewhere
unfoldable pub rules_from : Rules → Bool → meaning.Rules
rules_from r needs_sum = record {
  uses_values = r.valued;
  uses_copies = r.copied;
  label_bound = r.labels;
  budget_bound = r.budget;
  weight_rule = rule_from r.weights;
  value_floor = r.floor;
  needs_sum = needs_sum;
  uses_q = false;
}
