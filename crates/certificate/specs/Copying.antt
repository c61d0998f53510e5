-- What copying picks and cells into bytes comes to.
-- Assumes nothing.
use Rattle.std.specs.Prelude.{◌≡◌, ℕ, List}
use Rattle.meaning.specs.Reports.{Written}
use Rattle.meaning.specs.Job.{Job, Knapsack, labels}
use Rattle.meaning.specs.Certificates.{HasCertificates, certificate_cells}
use Rattle.meaning.specs.Writer.{Writes}

-- it is what the writer promises for any job that has certificates of n picks and so many cells
unfoldable pub CopiedFor : ℕ → ℕ → List ℕ → List ℕ → List ℕ → Written → List ℕ → Type 0
CopiedFor n count picks cells before a after =
    (k : Knapsack) (j : Job) → HasCertificates k j → labels j ≡ n → certificate_cells k j ≡ count → Writes j picks cells before a after
