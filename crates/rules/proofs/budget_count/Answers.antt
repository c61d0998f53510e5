-- `rules::budget_count` meets its contract: 9 is the kind with a q.
use mathlib.Core.Path.{refl}
use Rattle.meaning.specs.Lists.{if}
use Rattle.meaning.specs.Job.{has_q, budget_count}
use borrow.Author.Tests.{ne_eqb}
use Rattle.rules.proofs.budget_count.Goals as goal

pub returns-then-kind-eq9 : goal.returns-then-kind-eq9
unfolding budget_count has_q if
returns-then-kind-eq9 c = rw c.if-kind-eq9.true refl

pub returns-else-kind-eq9 : goal.returns-else-kind-eq9
unfolding budget_count has_q if
returns-else-kind-eq9 c = rw (ne_eqb c.args.kind 9 c.if-kind-eq9.false) refl
