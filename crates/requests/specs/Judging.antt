-- The test of a list's numbers.
-- Assumes nothing.
use Rattle.std.specs.Prelude.{◌≡◌, ℕ, Bool, List, leb}
use Rattle.meaning.specs.Lists.{every}
use Rattle.meaning.specs.Refusals.{each_within}

-- whether each number is from low to high; where high is the greatest of 32 bits, that is whether each is low or more
pub record EachWithin (low high : ℕ) (xs : List ℕ) (r : Bool) : Type 0 where
  pub within : r ≡ each_within low high xs
  pub up_from : high ≡ 4_294_967_295 → r ≡ every (leb low) xs
