-- Kind 9: a stated share of the best. The picks are those of kind 1 over cut values (Cuts), and a cell is the least weight for a total of them.
-- Assumes nothing.
use Rattle.std.specs.Prelude.{◌≡◌, ℕ, ◌+◌, ◌*◌, ◌≤◌, List}
use Rattle.meaning.specs.Lists.{at, total}
use Rattle.meaning.specs.Cells.{LeastShown}
use Rattle.meaning.specs.Job.{Job, labels, once}
use Rattle.meaning.specs.Orders.{Order, last_least, Chosen}
use Rattle.meaning.specs.Knapsacks.{Fits}
use Rattle.meaning.specs.Cuts.{remain_of, cut_values, cut_sum}

-- ---- the picks

-- p fits, reaches the greatest total of cut values, and among those that do weighs least. A label heavier than C is in no selection that fits
pub record CutBest (j : Job) (cuts : List ℕ) (p : List ℕ) : Type 0 where
  pub fits : Fits once j (labels j) j.budget p
  pub greatest : (r : List ℕ) → Fits once j (labels j) j.budget r → total cuts r ≤ total cuts p
  pub lightest : (r : List ℕ) → Fits once j (labels j) j.budget r → total cuts r ≡ total cuts p → total j.weights p ≤ total j.weights r

-- smallest read from the last label to the first
unfoldable pub stated_order : Order
stated_order = last_least

-- the picks: among those, the one that the order chooses
unfoldable pub StatedPicks : Job → List ℕ → Type 0
StatedPicks j p = Chosen stated_order (labels j) (CutBest j (cut_values j)) p

-- ---- the table

-- some selection of the first i labels, within C, has cut values of total t and weighs x
pub record CutWeight (j : Job) (cuts : List ℕ) (i t x : ℕ) : Type 0 where
  pub picks : List ℕ
  pub fits : Fits once j i j.budget picks
  pub cut : total cuts picks ≡ t
  pub heavy : total j.weights picks ≡ x

-- r(T+1)+t: the number of the cell for the first r remaining labels and total t
unfoldable pub stated_cell : Job → ℕ → ℕ → ℕ
stated_cell j r t = r * (cut_sum j + 1) + t

-- the table: of the first i labels `remain_of j i` remain, and they are the first so many remaining ones; for them and total t the cell shows the
-- least weight within C, or `no_way`. A label left aside is in no selection within C, so that it has no row of its own
unfoldable pub StatedTable : Job → List ℕ → Type 0
StatedTable j cells =
    (i t : ℕ) → i ≤ labels j → t ≤ cut_sum j → LeastShown (CutWeight j (cut_values j) i t) (at cells (stated_cell j (remain_of j i) t))
