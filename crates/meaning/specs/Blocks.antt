-- Kinds 5 and 6: lists of blocks that sum to exactly an amount.
-- Assumes nothing.
use Rattle.std.specs.Prelude.{◌≡◌, ℕ, ◌≤◌, min, List, length}
use Rattle.meaning.specs.Lists.{at, sum, total}
use Rattle.meaning.specs.Counting.{Counted}
use Rattle.meaning.specs.Cells.{LeastShown}
use Rattle.meaning.specs.Job.{Job, labels}
use Rattle.meaning.specs.Orders.{Order, last_most, Chosen}

-- a count for each of the first i block sizes, and the blocks sum to exactly a
pub record Makes (j : Job) (i a : ℕ) (p : List ℕ) : Type 0 where
  pub one_each : length p ≡ i
  pub sums_to : total j.weights p ≡ a

-- ---- kind 5

-- as few blocks as can be
pub record Fewest (j : Job) (i a : ℕ) (p : List ℕ) : Type 0 where
  pub makes : Makes j i a p
  pub least : (q : List ℕ) → Makes j i a q → sum p ≤ sum q

-- among lists with the fewest blocks, the last size's count is as great as it can be, then the one before it, and so on
unfoldable pub block_order : Order
block_order = last_most

-- the picks for amount a
unfoldable pub Laid : Job → ℕ → List ℕ → Type 0
Laid j a p = Chosen block_order (labels j) (Fewest j (labels j) a) p

-- some list of x blocks, of the first i sizes, makes a
pub record MadeOf (j : Job) (i a x : ℕ) : Type 0 where
  pub picks : List ℕ
  pub makes : Makes j i a picks
  pub blocks : sum picks ≡ x

-- the table: cell a is the fewest blocks for a, or `no_way`
unfoldable pub FewestRow : Job → List ℕ → Type 0
FewestRow j cells = (a : ℕ) → a ≤ j.budget → LeastShown (MadeOf j (labels j) a) (at cells a)

-- ---- kind 6

-- the ways to make a with the first i sizes are w: lists of counts are counted
unfoldable pub WaysFor : Job → ℕ → ℕ → ℕ → Type 0
WaysFor j i a w = Counted (Makes j i a) w

-- 2^64 - 1: ways from here on are too many to count
unfoldable pub too_many : ℕ
too_many = 18_446_744_073_709_551_615

-- a cell that shows the lesser of the ways for a, with the first i sizes, and 2^64 - 1
pub record WaysShown (j : Job) (i a cell : ℕ) : Type 0 where
  pub many : ℕ
  pub how_many : WaysFor j i a many
  pub lesser : cell ≡ min many too_many

-- the table: cell a shows it for a
unfoldable pub WaysRow : Job → List ℕ → Type 0
WaysRow j words = (a : ℕ) → a ≤ j.budget → WaysShown j (labels j) a (at words a)
