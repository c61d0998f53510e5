-- From the job bytes to the verdict: what the checker promises, by what the bytes are read as and by the job's refusal.
-- Assumes nothing.
use mathlib.Core.Path.{◌≡◌, refl, sym, ap, ◌∙◌}
use mathlib.Core.Option.{Option, none, some}
use Prim.Native.Nat.{ℕ, zero, suc}
use mathlib.Core.List.{List}
use Rattle.meaning.specs.Judges.{Verdict}
use Rattle.meaning.specs.Judges.{Refused}
use Rattle.meaning.specs.Job.{Job, Knapsack, packing}
use Rattle.meaning.specs.Refusals.{job_refusal, rules_of}
use Rattle.meaning.specs.Bytes.{JobRead, read_job, readable, unreadable}
use Rattle.meaning.specs.Answers.{verdict_numbers}
use Rattle.meaning.specs.Certificates.{Checked, HasCertificates, certified_knapsack, unless_refused, verdict_for, verdict_of, verdict_on_certificate}
use Rattle.meaning.specs.Certificates.{verdict_on_job}
use Rattle.meaning.proofs.Verdicts.{readable_on}
use Rattle.certificate.specs.Refusing.{refusal_for, certified_refusal}

-- a job that is refused has that verdict
unless_0 : (r : ℕ) (next : Verdict) → ¬ (r ≡ 0) → Refused r 0 ≡ unless_refused r next
unfolding unless_refused
unless_0 zero next Some-number = absurd (Some-number refl)
unless_0 (suc r) next Some-number = refl

refused_by : (o : Option Knapsack) (j : Job) (cert_b : List ℕ) → ¬ (refusal_for o j ≡ 0) → Refused (refusal_for o j) 0 ≡ verdict_for o j cert_b
unfolding refusal_for verdict_for
refused_by none j cert_b h = refl
refused_by (some k) j cert_b h = unless_0 (job_refusal (rules_of (packing k)) j 0) (verdict_on_certificate k j cert_b) h

module _ (jobB cert_b : List ℕ) (v : Verdict) where
  -- the verdict is the one on what the job bytes are read as
  checked : (r : JobRead) → verdict_of jobB cert_b ≡ verdict_on_job r cert_b → v ≡ verdict_on_job r cert_b → Checked jobB cert_b v
  unfolding Checked
  checked r e f = ap verdict_numbers (f ∙ sym e)

  pub not_read : (place : ℕ) → read_job jobB ≡ unreadable place → v ≡ Refused 1 0 → Checked jobB cert_b v
  unfolding verdict_of verdict_on_job
  not_read place e f = checked (unreadable place) (ap (λ (x : JobRead). verdict_on_job x cert_b) e) f

  -- that is the one on j
  module _ (j : Job) (on_job : verdict_of jobB cert_b ≡ verdict_on_job (readable j) cert_b) where
    pub job_refused : (r : ℕ) → r ≡ certified_refusal j → ¬ (r ≡ 0) → v ≡ Refused r 0 → Checked jobB cert_b v
    unfolding certified_refusal verdict_on_job
    job_refused r e Some-number f =
        checked (readable j) on_job
        (f ∙ ap (λ (n : ℕ). Refused n 0) e
        ∙ refused_by (certified_knapsack j.kind_number) j cert_b (λ none_given. Some-number (e ∙ none_given)))

    pub job_judged : (k : Knapsack) → HasCertificates k j → v ≡ verdict_on_certificate k j cert_b → Checked jobB cert_b v
    job_judged k has f = checked (readable j) on_job (f ∙ sym (readable_on k j cert_b has))
