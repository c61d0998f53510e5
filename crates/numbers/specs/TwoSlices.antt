-- A list that is handed over in two slices: first numbers, then bytes. A job of lists passes no bytes, a job of bytes no numbers.
-- Assumes nothing.
use Rattle.std.specs.Prelude.{ℕ, List, ◌++◌}
use Rattle.meaning.specs.Job.{Job, job_of}
use Rattle.meaning.specs.Bytes.{numbers_in}

-- the numbers, and after them those that stand in the bytes
unfoldable pub list_from : List ℕ → List ℕ → List ℕ
list_from numbers bytes = numbers ++ numbers_in bytes

-- the job of a kind and its budgets whose weights, values and copies are handed over so
abbrev pub job_from : ℕ → List ℕ → List ℕ → List ℕ → List ℕ → List ℕ → List ℕ → List ℕ → Job
job_from kind budgets weights wbytes values vbytes copies cbytes =
    job_of kind budgets (list_from weights wbytes) (list_from values vbytes) (list_from copies cbytes)
