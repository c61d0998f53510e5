-- `rules::blocks_rules` meets its contract: kinds 5 and 6 have the same rules.
use mathlib.Core.Bool.{false}
use Rattle.meaning.specs.Bounds.{most_sizes, most_budget}
use Rattle.meaning.specs.Refusals.{rules_of}
use Rattle.rules.specs.Ruling.{rule_from}
use Rattle.rules.proofs.blocks_rules.Goals as goal

pub returns : goal.returns
unfolding most_budget most_sizes rule_from rules_of
returns c = (c.weight_rules.ensures false, c.weight_rules.ensures false)
