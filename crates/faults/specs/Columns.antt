-- What the inner functions tell: of the row of cells that starts at `row` and the one that starts at `prior`, either a break or that
-- something is kept. A column is a budget b with b+w, b+2w, ..; its cell e is the one at b+ew.
-- Assumes nothing.
use Rattle.std.specs.Prelude.{◌≡◌, ℕ, ◌+◌, ◌*◌, ◌<◌, ◌≤◌, Bool, true, false, List, length}
use Rattle.meaning.specs.Lists.{at}

-- the answer, with what stands behind either
pub record Finds (r : Bool) (Broken Kept : Type 0) : Type 0 where
  pub broken : r ≡ true → Broken
  pub kept : r ≡ false → Kept

-- both rows are there up to budget `end`, that one not with it
pub record TwoRows (cells : List ℕ) (prior row end : ℕ) : Type 0 where
  pub prior_ends : prior + end ≤ length cells
  pub row_ends : row + end ≤ length cells

-- so many copies fit a row of this width
pub record CopiesFit (width w copies : ℕ) : Type 0 where
  pub weighs : 1 ≤ w
  pub light : w ≤ width
  pub narrow : width ≤ 65_536
  pub fit : copies * w < width

-- ---- one row against the other

-- from budget `from` up, some count of at most `copies` is below
pub record Low (cells : List ℕ) (prior row width w v copies : ℕ) : Type 0 where
  pub from : ℕ
  pub count : ℕ
  pub few : count ≤ copies
  pub inside : from + count * w < width
  pub below : at cells (row + (from + count * w)) < at cells (prior + from) + count * v

-- none is
pub record High (cells : List ℕ) (prior row width w v copies : ℕ) : Type 0 where
  pub all : (from count : ℕ) → count ≤ copies → from + count * w < width → at cells (prior + from) + count * v ≤ at cells (row + (from + count * w))

-- ---- one distance between budgets

-- at some budget with `far` more the claim is below that of the row before, and `gain`
pub record LowAt (cells : List ℕ) (prior row left far gain : ℕ) : Type 0 where
  pub from : ℕ
  pub inside : from < left
  pub below : at cells (row + (from + far)) < at cells (prior + from) + gain

-- at none
pub record HighAt (cells : List ℕ) (prior row left far gain : ℕ) : Type 0 where
  pub all : (from : ℕ) → from < left → at cells (prior + from) + gain ≤ at cells (row + (from + far))

-- ---- two distances, the second w more than the first and worth v more

-- the claim is below at the first distance, or at the second
pub data LowEither (cells : List ℕ) (prior row left far w gain v : ℕ) : Type 0 where
  at_first : LowAt cells prior row (left + w) far gain → LowEither cells prior row left far w gain v
  at_second : LowAt cells prior row left (far + w) (gain + v) → LowEither cells prior row left far w gain v

-- at neither
pub record HighBoth (cells : List ℕ) (prior row left far w gain v : ℕ) : Type 0 where
  pub first : HighAt cells prior row (left + w) far gain
  pub second : HighAt cells prior row left (far + w) (gain + v)

-- ---- one column up to budget `end`, whatever the count

-- from cell e up, some count is below
pub record LowWithin (cells : List ℕ) (prior row end w v b : ℕ) : Type 0 where
  pub e : ℕ
  pub count : ℕ
  pub inside : b + (e + count) * w < end
  pub below : at cells (row + (b + (e + count) * w)) < at cells (prior + (b + e * w)) + count * v

-- none is
pub record HighWithin (cells : List ℕ) (prior row end w v b : ℕ) : Type 0 where
  pub all : (e count : ℕ) → b + (e + count) * w < end → at cells (prior + (b + e * w)) + count * v ≤ at cells (row + (b + (e + count) * w))

-- ---- the counts that lead from the cells a, a+w, .. before budget a+copies*w to those from there on: to cell e from cell e+short, which are
-- `short` less than all copies apart

pub record HighAcross (cells : List ℕ) (prior row width w v copies a : ℕ) : Type 0 where
  pub all : (e short : ℕ) → e + short < copies → a + copies * w + e * w < width
      → at cells (prior + (a + (e + short) * w)) + copies * v ≤ at cells (row + (a + copies * w + e * w)) + short * v

-- ---- the cells of one column in one block of copies+1, each with every count

pub record HighColumn (cells : List ℕ) (prior row width w v copies b : ℕ) : Type 0 where
  pub all : (e count : ℕ) → e ≤ copies → count ≤ copies → b + (e + count) * w < width
      → at cells (prior + (b + e * w)) + count * v ≤ at cells (row + (b + (e + count) * w))

-- all columns of the block from budget `base` on
pub record HighBlock (cells : List ℕ) (prior row width w v copies base : ℕ) : Type 0 where
  pub all : (r : ℕ) → r < w → base + r < width → HighColumn cells prior row width w v copies (base + r)
