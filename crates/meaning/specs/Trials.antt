-- The sixteen proved trials: one list, and one claim about the meanings.
-- Assumes nothing.
use Rattle.std.specs.Prelude.{ℕ, List, [], ◌∷◌, ◌++◌, replicate, true, false}
use Rattle.meaning.specs.Says.{Answer}
use Rattle.meaning.specs.Says.{Knapsack, Sums, Blocks, Ways, Shares}
use Rattle.meaning.specs.Judges.{Verdict}
use Rattle.meaning.specs.Judges.{Accepted, Refused}
use Rattle.meaning.specs.Job.{Job, job_of, Kind}
use Rattle.meaning.specs.Lent.{Lent, lent_of, room_for}
use Rattle.meaning.specs.Bytes.{job_bytes, section_bytes}
use Rattle.meaning.specs.Answers.{answer_numbers}
use Rattle.meaning.specs.Solved.{Gives, Unrefused}
use Rattle.meaning.specs.Certificates.{Checked}

-- a job with its answer and picks; or job bytes and certificate bytes with the verdict
pub data Trial : Type 0 where
  solve : Job → Answer → List ℕ → Trial
  check : List ℕ → List ℕ → Verdict → Trial

-- slices with just the room that kind k asks for
unfoldable pub just_enough : Kind → Job → Lent
just_enough k j = lent_of (replicate (room_for k j).cells 0) (replicate (room_for k j).words 0) (replicate (room_for k j).picks 0)

-- the job is of kind k, isn't refused where there is room, and is answered by a and the picks p
pub record Means (k : Kind) (j : Job) (a : Answer) (p : List ℕ) : Type 0 where
  pub unrefused : Unrefused k j (just_enough k j)
  pub answer : Gives k j (answer_numbers a) p

-- the trial goes as it says
unfoldable pub Goes : Trial → Type 0
Goes (solve j a p) = (k : Kind) × Means k j a p
Goes (check jobB cert_b v) = Checked jobB cert_b v

-- every one of them
pub data AllGo : List Trial → Type 0 where
  done : AllGo []
  ◌and◌ : {t : Trial} {ts : List Trial} → Goes t → AllGo ts → AllGo (t ∷ ts)

infixr 4 ◌and◌
-- J's job
unfoldable pub job_j : List ℕ
job_j = job_bytes (job_of 1 (2 ∷ []) (2 ∷ []) (3 ∷ []) [])

-- a certificate for it: pick 1, and these cells
unfoldable pub cert_j : List ℕ → List ℕ
cert_j cells = section_bytes (1 ∷ []) ++ section_bytes cells

-- A to J. Where document 01 gives only some of an answer's numbers, the others are added
unfoldable pub trials : List Trial
trials =
    solve (job_of 1 (7 ∷ []) (3 ∷ 4 ∷ 5 ∷ []) (4 ∷ 5 ∷ 6 ∷ []) []) (Knapsack 9 7) (1 ∷ 1 ∷ 0 ∷ [])  -- A
    ∷ solve (job_of 1 (3 ∷ []) (1 ∷ 2 ∷ 3 ∷ []) (1 ∷ 2 ∷ 3 ∷ []) []) (Knapsack 3 3) (1 ∷ 1 ∷ 0 ∷ [])  -- B
    ∷ solve (job_of 1 (10 ∷ []) (6 ∷ 5 ∷ 5 ∷ []) (7 ∷ 5 ∷ 5 ∷ []) []) (Knapsack 10 10) (0 ∷ 1 ∷ 1 ∷ [])  -- C
    ∷ solve (job_of 2 (7 ∷ []) (2 ∷ 3 ∷ []) (3 ∷ 5 ∷ []) (2 ∷ 1 ∷ [])) (Knapsack 11 7) (2 ∷ 1 ∷ [])  -- D
    ∷ solve (job_of 3 (10 ∷ []) (3 ∷ 4 ∷ []) (4 ∷ 6 ∷ []) []) (Knapsack 14 10) (2 ∷ 1 ∷ [])  -- E
    ∷ solve (job_of 3 (4 ∷ []) (2 ∷ 4 ∷ []) (1 ∷ 2 ∷ []) []) (Knapsack 2 4) (2 ∷ 0 ∷ [])
    ∷ solve (job_of 4 (8 ∷ []) (3 ∷ 5 ∷ 9 ∷ []) [] []) (Sums true 4) []  -- F
    ∷ solve (job_of 4 (7 ∷ []) (3 ∷ 5 ∷ 9 ∷ []) [] []) (Sums false 3) []
    ∷ solve (job_of 5 (6 ∷ []) (1 ∷ 3 ∷ 4 ∷ []) [] []) (Blocks 2) (0 ∷ 2 ∷ 0 ∷ [])  -- G
    ∷ solve (job_of 5 (5 ∷ []) (1 ∷ 2 ∷ 3 ∷ 4 ∷ []) [] []) (Blocks 2) (1 ∷ 0 ∷ 0 ∷ 1 ∷ [])
    ∷ solve (job_of 6 (5 ∷ []) (1 ∷ 2 ∷ 5 ∷ []) [] []) (Ways 4) []  -- H
    ∷ solve (job_of 6 (7 ∷ []) (2 ∷ 4 ∷ []) [] []) (Ways 0) []
    ∷ solve (job_of 7 (10 ∷ []) (1 ∷ 1 ∷ 1 ∷ []) [] []) (Shares 1) (4 ∷ 3 ∷ 3 ∷ [])  -- I
    ∷ solve (job_of 7 (7 ∷ []) (2 ∷ 3 ∷ 5 ∷ []) [] []) (Shares 1) (1 ∷ 2 ∷ 4 ∷ [])
    ∷ check job_j (cert_j (0 ∷ 0 ∷ 0 ∷ 9 ∷ 9 ∷ 3 ∷ [])) (Accepted 3)  -- J
    ∷ check job_j (cert_j (0 ∷ 0 ∷ 0 ∷ 0 ∷ 0 ∷ 2 ∷ [])) (Refused 14 5)
    ∷ []
