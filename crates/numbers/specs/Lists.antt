-- The job that lists make, however they came.
-- Assumes nothing.
use Rattle.std.specs.Prelude.{ℕ, List, [], ◌∷◌}
use Rattle.numbers.specs.declared.Job.{Job as Came}
use Rattle.meaning.specs.Job.{Job, job_of}

-- the job that came
abbrev pub job_in : Came → Job
job_in j = job_of j.kind (j.budget ∷ j.q ∷ []) j.weights j.values j.copies

-- the same, as one of a kind that has no q
abbrev pub job_as : ℕ → Came → Job
job_as kind j = job_of kind (j.budget ∷ []) j.weights j.values j.copies

-- a job of weights alone: kinds 4 to 8
abbrev pub weights_from : ℕ → List ℕ → List ℕ → Job
weights_from kind budgets weights = job_of kind budgets weights [] []

-- a job of kind 9: C and q, weights and values
abbrev pub stated_from : ℕ → ℕ → List ℕ → List ℕ → Job
stated_from budget q weights values = job_of 9 (budget ∷ q ∷ []) weights values []
