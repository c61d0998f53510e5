-- What the rows of kinds 1 to 3 may count on.
-- Assumes nothing.
use Rattle.std.specs.Prelude.{◌≡◌, ℕ, ◌+◌, ◌≤◌, ◌<◌, List, length}
use Rattle.meaning.specs.Lists.{at}
use Rattle.meaning.specs.Bounds.{most_budget, most_value}

-- what the lists and the width of a row keep in kinds 1 to 3
pub record Bounded (width : ℕ) (weights values : List ℕ) : Type 0 where
  pub wide : 0 < width
  pub narrow : width ≤ most_budget + 1
  pub valued : length values ≡ length weights
  pub heavy : (i : ℕ) → i < length weights → 1 ≤ at weights i
  pub cheap : (i : ℕ) → i < length weights → at values i ≤ most_value
