-- The third demand, of any checker of job bytes and certificate bytes, by what it promises of its verdict. (The first and the second, that a
-- bad request gets its number and writes nothing, and that an answer is the true one, are what `Solved` says, by `TurnedDown` and by `Gives`.)
-- Assumes nothing.
use Rattle.std.specs.Prelude.{◌≡◌, ◌↔◌, ℕ, Bool, List, [], T, ltb, take}
use Rattle.meaning.specs.Judges.{Verdict}
use Rattle.meaning.specs.Says.{Answer}
use Rattle.meaning.specs.declared.Way.{Way}
use Rattle.meaning.specs.declared.Way.TheVariants.{Full}
use Rattle.meaning.specs.Says as Says
use Rattle.meaning.specs.Reports.{Bytes}
use Rattle.meaning.specs.Judges.{Accepted}
use Rattle.std.specs.Prelude.{None}
use Rattle.meaning.specs.Lists.{total, every}
use Rattle.meaning.specs.Job.{Job, labels, Knapsack}
use Rattle.meaning.specs.Lent.{Lent}
use Rattle.meaning.specs.Bytes.{read_section, with_section, readable, read_job}
use Rattle.meaning.specs.Knapsacks.{Best}
use Rattle.meaning.specs.Solved.{SolvedBy, SolvedBytesBy}
use Rattle.meaning.specs.Certificates.{HasCertificates}
use Rattle.meaning.specs.Writer.{Writes, WritesBytes}

-- each number is a byte
unfoldable pub are_bytes : List ℕ → Bool
are_bytes b = every (λ x. ltb x 256) b

-- the list that a certificate carries: the numbers of its first section
unfoldable pub list_in : List ℕ → List ℕ
list_in cert_b = with_section cert_b (read_section None cert_b 0) (λ place. []) (λ picks next. picks)

-- the bytes hold the job j, which has certificates: none of refusals 1 to 5 applies
pub record ValidJob (jobB : List ℕ) (j : Job) : Type 0 where
  pub reads : read_job jobB ≡ readable j
  pub knapsack : Knapsack
  pub has_certificates : HasCertificates knapsack j

-- the list is one the rules allow, fits and is best
unfoldable pub BestList : Knapsack → Job → List ℕ → Type 0
BestList k j p = Best k j (labels j) j.budget p

-- accepted with v: the job is valid, and the certificate's list is allowed, fits, is worth v, and nothing within budget is worth more
pub record Sound (jobB cert_b : List ℕ) (v : ℕ) : Type 0 where
  pub job : Job
  pub valid_job : ValidJob jobB job
  pub best : BestList valid_job.knapsack job (list_in cert_b)
  pub value : total job.values (list_in cert_b) ≡ v

-- the certificate is accepted with v: that is a verdict by the promise, and no other is
pub record AcceptedWith (Check : List ℕ → List ℕ → Verdict → Type 0) (jobB cert_b : List ℕ) (v : ℕ) : Type 0 where
  pub verdict : Check jobB cert_b (Accepted v)
  pub no_other : (w : Verdict) → Check jobB cert_b w → w ≡ Accepted v

-- some certificate with the list p is accepted
pub record Accepts (Check : List ℕ → List ℕ → Verdict → Type 0) (jobB p : List ℕ) : Type 0 where
  pub cert_b : List ℕ
  pub bytes : T (are_bytes cert_b)
  pub with_list : list_in cert_b ≡ p
  pub value : ℕ
  pub accepted : AcceptedWith Check jobB cert_b value

-- 'Accepted means nothing within budget is worth more; and for a valid job and any list, some certificate with that list is
-- accepted exactly when the list is allowed, fits and is best.'
pub record Demand3 (Check : List ℕ → List ℕ → Verdict → Type 0) : Type 0 where
  pub accepted_is_best : (jobB cert_b : List ℕ) (v : ℕ) → Check jobB cert_b (Accepted v) → Sound jobB cert_b v
  pub exactly_when_best : (jobB : List ℕ) (j : Job) (valid_job : ValidJob jobB j) (p : List ℕ) → Accepts Check jobB p ↔ BestList valid_job.knapsack j p

-- by this way a job leaves what its certificate is written from: by the full way each does, and by either way one of another kind than 1
pub data LeavesClaims (j : Job) : Way → Type 0 where
  full_way : LeavesClaims j Full
  other_kind : {way : Way} → ¬ (j.kind_number ≡ 1) → LeavesClaims j way

-- 'Ours always is.' Whoever solved the job, and whoever wrote a certificate of what was left, unless refused: the answer's value is accepted
pub record OursAccepted (Check : List ℕ → List ℕ → Verdict → Type 0) : Type 0 where
  pub by_lists : (way : Way) (jobB : List ℕ) (j : Job) → read_job jobB ≡ readable j → LeavesClaims j way
      → (before after : Lent) (a : Answer) → SolvedBy way j before a after
      → (out out' : List ℕ) (n : ℕ) → Writes j after.picks after.cells out (Bytes n) out'
      → (value weight : ℕ) × (a ≡ Says.Knapsack value weight) × AcceptedWith Check jobB (take n out') value
  pub by_bytes : (way : Way) (jobB : List ℕ) → ((j : Job) → read_job jobB ≡ readable j → LeavesClaims j way)
      → (before after : Lent) (a : Answer) → SolvedBytesBy way jobB before a after
      → (out out' : List ℕ) (n : ℕ) → WritesBytes jobB after.picks after.cells out (Bytes n) out'
      → (value weight : ℕ) × (a ≡ Says.Knapsack value weight) × AcceptedWith Check jobB (take n out') value
