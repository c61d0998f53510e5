-- What job bytes are read as: the job, or the places of its parts.
-- Assumes nothing.
use Rattle.std.specs.Prelude.{◌≡◌, ℕ, ◌≤◌, List, [], ◌∷◌, length, Result, Ok, Err}
use Rattle.meaning.specs.Job as meaning
use Rattle.meaning.specs.Bytes.{Section, between, read_job, readable, unreadable}
use Rattle.numbers.specs.declared.Job.{Job}
use Rattle.numbers.specs.Lists.{job_in}
use Rattle.numbers.specs.TwoSlices.{job_from}
use Rattle.requests.specs.declared.Part.{Part}
use Rattle.requests.specs.declared.Parts.{Parts}

-- the job that they are, or the place where reading broke
unfoldable pub ReadAs : List ℕ → Result Job ℕ → Type 0
ReadAs b (Ok job) = read_job b ≡ readable (job_in job)
ReadAs b (Err place) = read_job b ≡ unreadable place

-- ---- by the places of its parts

-- a part lies within the bytes
pub record Within (b : List ℕ) (part : Part) : Type 0 where
  pub ordered : part.start ≤ part.end
  pub inside : part.end ≤ length b

-- the bytes of a part
unfoldable pub bytes_at : List ℕ → Part → List ℕ
bytes_at b part = between b part.start part.end

-- the job whose lists stand in these parts of the bytes
abbrev pub job_at : List ℕ → Parts → meaning.Job
job_at b parts =
    job_from parts.kind (parts.budget ∷ parts.q ∷ [])
    [] (bytes_at b parts.weights) [] (bytes_at b parts.values) [] (bytes_at b parts.copies)

-- it is the one that the bytes are read as
pub record PartsOf (b : List ℕ) (parts : Parts) : Type 0 where
  pub read : read_job b ≡ readable (job_at b parts)
  pub weights_within : Within b parts.weights
  pub values_within : Within b parts.values
  pub copies_within : Within b parts.copies

-- what reading the bytes comes to
unfoldable pub ReadInParts : List ℕ → Result Parts ℕ → Type 0
ReadInParts b (Ok parts) = PartsOf b parts
ReadInParts b (Err place) = read_job b ≡ unreadable place

-- a section that broke, as the job's break; and one that is whole, as a break where its numbers start
unfoldable pub broken_of : Section → Result Parts ℕ
broken_of (Ok (start, count, next)) = Err start
broken_of (Err place) = Err place
