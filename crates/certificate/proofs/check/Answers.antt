-- `certificate::check` meets its contract: what the job bytes are read as is asked about refusals 2 to 5, and then its certificate is judged.
use mathlib.Core.Path.{refl, sym, ap, ◌∙◌}
use native.Mathlib.Omega.{arith}
use Rattle.std.proofs.lemmas.Result.{err_from_is_err_and}
use Rattle.meaning.specs.Job.{job_of}
use Rattle.meaning.specs.Bytes.{JobRead}
use Rattle.meaning.specs.Certificates.{verdict_of, verdict_on_job}
use Rattle.meaning.proofs.Budgets.{verdict_ignores}
use Rattle.meaning.proofs.Refusing.{some_number}
use Rattle.requests.proofs.Reading.{unread, read_in}
use Rattle.verdicts.specs.Asked.{certified}
use Rattle.certificate.proofs.Refusing.{not_refused}
use Rattle.certificate.proofs.Checking.{not_read, job_refused, job_judged}
use Rattle.certificate.proofs.check.Goals as goal

pub returns-in_default : goal.returns-in_default
returns-in_default c =
    rw (c.from.ensures.0, c.from.ensures.1) (not_read _ _ _ c.in_default.field-0 (unread _ c.in_default.is c.read_job.ensures) refl)

pub returns-in_err-job_refusal : goal.returns-in_err-job_refusal
unfolding verdict_of
returns-in_err-job_refusal c =
    let p = err_from_is_err_and c.from_residual.result c.from_residual.ensures.1 in
    let j = c.in-Ok.request in
    let read = read_in _ c.in-Ok.is c.read_job.ensures in
    rw (p.1, p.2.0, p.2.1)
    (job_refused _ _ _ (certified j)
    (ap (λ (r : JobRead). verdict_on_job r c.args.certificate.now) read ∙ sym (verdict_ignores j.kind _ _ _ j.budget j.q c.args.certificate.now))
    _ c.in_err-job_refusal.ensures (λ none. omega (arith, some_number c.in_err-job_refusal.field-0.0)) refl)

pub judge-requires : goal.judge-requires
unfolding job_of
judge-requires c = not_refused (certified c.in-Ok.request) (sym c.in_ok-job_refusal.ensures)

pub returns : goal.returns
unfolding job_of verdict_of
returns c =
    let j = c.in-Ok.request in
    let read = read_in _ c.in-Ok.is c.read_job.ensures in
    job_judged _ _ _ (certified j)
    (ap (λ (r : JobRead). verdict_on_job r c.args.certificate.now) read ∙ sym (verdict_ignores j.kind _ _ _ j.budget j.q c.args.certificate.now))
    _ (not_refused (certified j) (sym c.in_ok-job_refusal.ensures)) c.judge.ensures
