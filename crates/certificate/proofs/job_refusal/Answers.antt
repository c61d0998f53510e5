-- `certificate::job_refusal` meets its contract: 2 for another kind, and kinds 1 to 3 by their rules.
use mathlib.Core.Path.{sym, ap, ◌∙◌}
use mathlib.Core.Bool.{false}
use native.Mathlib.Omega.{arith}
use Rattle.meaning.specs.Job.{job_of}
use Rattle.meaning.specs.Refusals as meaning
use Rattle.meaning.specs.Refusals.{job_refusal}
use Rattle.meaning.proofs.Certified.{certified_kind}
use Rattle.verdicts.specs.Asked.{certified}
use Rattle.certificate.proofs.Refusing.{certified_number, kind_0, kind_4, by_rules}
use Rattle.certificate.proofs.job_refusal.Goals as goal

pub returns-in-1-to-3 : goal.returns-in-1-to-3
unfolding job_of
returns-in-1-to-3 c =
    let job = certified c.args.job.now in
    let (k, of_knapsack) = certified_number c.args.job.now.kind (omega arith) (omega arith) in
    c.job_refusal.ensures c.args.job.now.kind false
    ∙ ap (λ (r : meaning.Rules). job_refusal r job 0) (c.knapsack_rules.ensures k (certified_kind c.args.job.now.kind k of_knapsack))
    ∙ sym (by_rules job k of_knapsack)

pub returns-in_default : goal.returns-in_default
unfolding job_of
returns-in_default c = sym (kind_0 (certified c.args.job.now) (omega arith))

pub returns-in_default-2 : goal.returns-in_default-2
unfolding job_of
returns-in_default-2 c = sym (kind_4 (certified c.args.job.now) (omega arith))
