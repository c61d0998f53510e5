-- `requests::keeps` meets its contract, rule by rule.
use mathlib.Core.Path.{refl}
use Rattle.meaning.specs.Refusals.{positive, anything}
use Rattle.rules.specs.Ruling.{rule_from}
use Rattle.requests.proofs.keeps.Goals as goal

pub returns-in-Positive : goal.returns-in-Positive
unfolding positive rule_from
returns-in-Positive c = rw c.in-Positive.is (c.each_within.ensures.up_from refl)

pub returns-in-Ascending : goal.returns-in-Ascending
unfolding rule_from
returns-in-Ascending c = rw c.in-Ascending.is c.ascending.ensures

pub returns-in-Anything : goal.returns-in-Anything
unfolding anything rule_from
returns-in-Anything c = rw c.in-Anything.is
