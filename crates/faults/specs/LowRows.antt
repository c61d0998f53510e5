-- Rule 14 by cells alone, for a label of weight w and value v: in a table, against the row before; in a single row, against itself.
-- Assumes nothing.
use Rattle.std.specs.Prelude.{ℕ, suc, ◌+◌, ◌-◌, ◌*◌, ◌≤◌, Bool, ◌&&◌, List, length, nat_le, nat_lt}
use Rattle.meaning.specs.Lists.{at}
use Rattle.meaning.specs.Certificates.{some_of}

-- ---- a table: the row of cells that starts at `row`

-- the row is there, and one before it
pub record RowThere (cells : List ℕ) (row width : ℕ) : Type 0 where
  pub not_first : width ≤ row
  pub ends : row + width ≤ length cells

-- the budgets below `end` of a row of this width, for a label of weight w and value v within their bounds
pub record Budgets (width end w v : ℕ) : Type 0 where
  pub some : 1 ≤ end
  pub inside : end ≤ width
  pub narrow : width ≤ 65_536
  pub weighs : 1 ≤ w
  pub small : v ≤ 65_535

-- at budget c so many of the label fit, and the claim is below that of the row before at their weight less, and their value together
unfoldable pub below_count : List ℕ → ℕ → ℕ → ℕ → ℕ → ℕ → ℕ → Bool
below_count cells row width w v c count = nat_le (w * count) c && nat_lt (at cells (row + c)) (at cells (row + c - width - w * count) + v * count)

-- the rule is broken at budget c: so it is for some count from 0 to `most`
unfoldable pub low_in : List ℕ → ℕ → ℕ → ℕ → ℕ → ℕ → ℕ → Bool
low_in cells row width w v most c = some_of (below_count cells row width w v c) (suc most)

-- ---- a single row

-- at budget c the label fits, and the claim is below the one at its weight less, and its value together
unfoldable pub below_one : List ℕ → ℕ → ℕ → ℕ → Bool
below_one cells w v c = nat_le w c && nat_lt (at cells c) (at cells (c - w) + v)
