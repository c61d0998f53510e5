-- No second choice is left: one refusal, and one job that was read.
-- Assumes nothing.
use Prim.Native.Nat.{ℕ}
use mathlib.Core.Path.{◌≡◌, sym, ◌∙◌}
use mathlib.Core.Bool.{Bool, false}
use mathlib.Core.List.{List}
use Rattle.std.specs.Prelude.{Result, Ok, Err}
use Rattle.meaning.specs.declared.Refusal.{Refusal}
use Rattle.meaning.specs.Bytes.{JobRead, read_job, readable, unreadable}
use Rattle.meaning.specs.Refusals.{job_refusal}
use Rattle.meaning.specs.Refusing.{refused}
use Rattle.meaning.proofs.Refusing.{one_refusal}
use Rattle.numbers.specs.declared.Job.{Job}
use Rattle.numbers.specs.Lists.{job_as, job_in}
use Rattle.rules.specs.declared.Rules.{Rules}
use Rattle.rules.specs.Ruling.{rules_from}
use Rattle.requests.specs.declared.Parts.{Parts}
use Rattle.requests.specs.Reading.{ReadAs, ReadInParts, job_at}

-- `job_refusal`
pub job_refusal_unique : (rules : Rules) (job : Job) (r r' : Result Unit Refusal)
    → ((kind : ℕ) (needs_sum : Bool) → refused r ≡ job_refusal (rules_from rules needs_sum) (job_as kind job) 0)
    → ((kind : ℕ) (needs_sum : Bool) → refused r' ≡ job_refusal (rules_from rules needs_sum) (job_as kind job) 0) → r ≡ r'
job_refusal_unique rules job r r' a b = one_refusal r r' (a 0 false ∙ sym (b 0 false))

-- ---- `read_job`: what it was read as has no choice

-- the job that was read, or where reading broke
unfoldable pub told_by : Result Job ℕ → JobRead
told_by (Ok job) = readable (job_in job)
told_by (Err place) = unreadable place

told : (b : List ℕ) (r : Result Job ℕ) → ReadAs b r → read_job b ≡ told_by r
unfolding ReadAs told_by
told b (Ok job) h = h
told b (Err place) broken = broken

-- both tell of one job, or of one place where reading broke
pub one_job_read : (b : List ℕ) (r r' : Result Job ℕ) → ReadAs b r → ReadAs b r' → told_by r ≡ told_by r'
one_job_read b r r' h h' = sym (told b r h) ∙ told b r' h'

-- ---- `read_parts` leaves a choice: a list may stand in any part that holds its numbers. What it was read as has none

-- the job in these parts of the bytes, or where reading broke
unfoldable pub told_in_parts : List ℕ → Result Parts ℕ → JobRead
told_in_parts b (Ok parts) = readable (job_at b parts)
told_in_parts b (Err place) = unreadable place

told_there : (b : List ℕ) (r : Result Parts ℕ) → ReadInParts b r → read_job b ≡ told_in_parts b r
unfolding ReadInParts told_in_parts
told_there b (Ok parts) h = h.read
told_there b (Err place) broken = broken

-- both tell of one job, or of one place where reading broke
pub one_job_in_parts : (b : List ℕ) (r r' : Result Parts ℕ) → ReadInParts b r → ReadInParts b r' → told_in_parts b r ≡ told_in_parts b r'
one_job_in_parts b r r' h h' = sym (told_there b r h) ∙ told_there b r' h'
