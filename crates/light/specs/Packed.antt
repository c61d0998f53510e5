-- Kind 1 the light way, in the words of `meaning`.
-- Assumes nothing.
use Rattle.std.specs.Prelude.{◌≡◌, ℕ, ◌+◌, List}
use Rattle.meaning.specs.Lists.{total}
use Rattle.meaning.specs.Job.{Job, labels, once}
use Rattle.meaning.specs.Knapsacks.{BestPicks}
use Rattle.meaning.specs.Light.{LightTable}

-- the light table of a job, its chosen picks, and what they leave of the budget
pub record PackedLight (j : Job) (cells words picks : List ℕ) (left : ℕ) : Type 0 where
  pub table : LightTable j cells words
  pub chosen : BestPicks once j (labels j) j.budget picks
  pub weight : total j.weights picks + left ≡ j.budget
