-- `knapsack::allowed` meets its contract: once in kind 1, and otherwise as often as the copies say.
use borrow.Author.Tests.{eq-eqb, ne_eqb}
use mathlib.Core.Path.{◌∙◌}
use Rattle.meaning.specs.Lists.{if}
use Rattle.knapsack.specs.Tables.{limit_of}
use Rattle.knapsack.proofs.allowed.Goals as goal

pub returns-then-job-eq1 : goal.returns-then-job-eq1
unfolding if limit_of
returns-then-job-eq1 c = rw (eq-eqb c.args.job.now.kind 1 c.if-job-eq1.true)

pub returns : goal.returns
unfolding if limit_of
returns c = c.at.ensures ∙ rw (ne_eqb c.args.job.now.kind 1 c.if-job-eq1.false)
