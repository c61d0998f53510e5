-- What the inner functions ask of a job and of what was read of its certificate.
-- Assumes nothing.
use Rattle.std.specs.Prelude.{◌≡◌, ℕ, ◌+◌, ◌*◌, ◌≤◌, ◌<◌, List, eqb, length}
use Rattle.meaning.specs.Lists.{at, if}
use Rattle.meaning.specs.Job.{Job, Knapsack, once, limited, free}
use Rattle.numbers.specs.declared.Job.{Job as Came}
use Rattle.numbers.specs.Lists.{job_as}
use Rattle.meaning.specs.Bounds.{most_labels}
use Rattle.meaning.specs.Certificates.{HasCertificates, certificate_cells}

-- the job that came, as one of kinds 1 to 3, which have no q
abbrev pub certified : Came → Job
certified j = job_as j.kind j

-- the knapsack that a kind number is taken for, once it is known to be 1, 2 or 3
unfoldable pub knapsack_in : ℕ → Knapsack
knapsack_in kind = if (eqb kind 1) once (if (eqb kind 3) free limited)

-- the job has certificates, and so many cells were read as it needs
pub record CellsRead (k : Knapsack) (j : Job) (cells : List ℕ) : Type 0 where
  pub has_certificates : HasCertificates k j
  pub long : length cells ≡ certificate_cells k j

-- cells that are passed at once lie in one row of a table, from its start on; in a single row they do
pub record InRow (j : Job) (from end : ℕ) : Type 0 where
  pub row : ℕ
  pub starts : from ≡ row * (j.budget + 1)
  pub ends : end ≤ from + (j.budget + 1)

unfoldable pub Together : Knapsack → Job → ℕ → ℕ → Type 0
Together once j from end = InRow j from end
Together limited j from end = InRow j from end
Together free j from end = Unit

-- the cells from one on and below another: some, all of them there, and passed at once
pub record Run (k : Knapsack) (j : Job) (from end : ℕ) : Type 0 where
  pub some : from < end
  pub inside : end ≤ certificate_cells k j
  pub together : Together k j from end

-- picks of a number of labels within its bound, and each of 16 bits, so that what they weigh stays within 64 bits
pub record FewPicks (each picks : List ℕ) : Type 0 where
  pub one_each : length each ≡ length picks
  pub few : length picks ≤ most_labels
  pub small : (i : ℕ) → i < length picks → at picks i < 65_536
