-- What the doors of this crate ask, in the words of `meaning`.
-- Assumes nothing.
use Rattle.std.specs.Prelude.{ℕ, List, []}
use Rattle.meaning.specs.declared.Way.TheVariants.{Full}
use Rattle.meaning.specs.Job.{Job, Knapsack, packing}
use Rattle.meaning.specs.Lent.{lent_of}
use Rattle.meaning.specs.Solved.{UnrefusedBy}

-- a job of one of the three knapsacks that no refusal meets, kind 1 by the full way, with these cells and picks lent. It needs no words
pub record LetIn (j : Job) (cells picks : List ℕ) : Type 0 where
  pub knapsack : Knapsack
  pub unrefused : UnrefusedBy Full (packing knapsack) j (lent_of cells [] picks)
