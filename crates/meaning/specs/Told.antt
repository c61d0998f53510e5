-- What a program is told of job bytes beside the answer: the number of the kind and how many labels there are, which its lines need and no answer has.
-- Assumes nothing.
use Rattle.std.specs.Prelude.{◌≡◌, ℕ, List}
use Rattle.meaning.specs.Says.{Answer}
use Rattle.meaning.specs.declared.Way.{Way}
use Rattle.meaning.specs.declared.Way.TheVariants.{Light}
use Rattle.meaning.specs.Job.{labels}
use Rattle.meaning.specs.Lent.{Lent}
use Rattle.meaning.specs.Bytes.{JobRead, read_job, readable, unreadable}
use Rattle.meaning.specs.Solved.{SolvedBytesBy}

-- the number of a job's kind; bytes that can't be read have none, and their refusal names none
unfoldable pub kind_read : JobRead → ℕ
kind_read (unreadable place) = 0
kind_read (readable j) = j.kind_number

-- how many labels a job has
unfoldable pub labels_read : JobRead → ℕ
labels_read (unreadable place) = 0
labels_read (readable j) = labels j

-- the planner's promise on job bytes, and both numbers
pub record ToldBy (way : Way) (bytes : List ℕ) (before : Lent) (kind labels : ℕ) (a : Answer) (after : Lent) : Type 0 where
  pub solved : SolvedBytesBy way bytes before a after
  pub kind_told : kind ≡ kind_read (read_job bytes)
  pub labels_told : labels ≡ labels_read (read_job bytes)

-- by the light way
abbrev pub ToldBytes : List ℕ → Lent → ℕ → ℕ → Answer → Lent → Type 0
ToldBytes bytes before kind labels a after = ToldBy Light bytes before kind labels a after
