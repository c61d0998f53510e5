-- What the door of this crate asks, in the words of `meaning`.
-- Assumes nothing.
use Rattle.meaning.specs.Job.{Job, fewest_blocks, block_ways}
use Rattle.meaning.specs.Lent.{Lent}
use Rattle.meaning.specs.Solved.{Unrefused}

-- a job of fewest blocks or of ways that no refusal meets, with these slices lent
pub data LetIn (j : Job) (lent : Lent) : Type 0 where
  blocks_asked : Unrefused fewest_blocks j lent → LetIn j lent
  ways_asked : Unrefused block_ways j lent → LetIn j lent
