-- Cells alone: what is read off a table of least weights, the highest total that is reached and its picks; and what values are within.
-- Assumes nothing.
use Rattle.std.specs.Prelude.{◌≡◌, ℕ, suc, ◌-◌, ◌*◌, ◌≤◌, ◌<◌, List, [], ◌∷◌, eqb, length}
use Rattle.meaning.specs.Says.{Answer}
use Rattle.meaning.specs.Says as Says
use Rattle.meaning.specs.Lists.{at, total, if}
use Rattle.meaning.specs.Cells.{no_way}
use Rattle.meaning.specs.Bounds.{most_labels, most_value}
use Rattle.stated.specs.LeastWeights.{cell_of, Filled}

-- what the values keep: there is one for each weight, of so many labels, and none is above its bound
pub record Valued (weights values : List ℕ) : Type 0 where
  pub few : length weights ≤ most_labels
  pub one_each : length values ≡ length weights
  pub cheap : (i : ℕ) → i < length weights → at values i ≤ most_value

-- the highest total below `width` whose cell isn't marked
pub record Highest (row : ℕ → ℕ) (width top : ℕ) : Type 0 where
  pub inside : top < width
  pub reached : ¬ (row top ≡ no_way)
  pub above : (t : ℕ) → top < t → t < width → row t ≡ no_way

-- 1 where two cells differ, and 0 where they are the same
unfoldable pub apart : ℕ → ℕ → ℕ
apart x y = if (eqb x y) 0 1

-- the trace back through the rows from total `top` of all n labels. It has come to the row of the first i and to total t, and `found` are the picks
-- of the labels from i on: a label is picked where its row has another cell for the total than the row before it
pub data TraceBack (cell : ℕ → ℕ → ℕ) (cuts : List ℕ) (n top : ℕ) : ℕ → ℕ → List ℕ → Type 0 where
  begin : TraceBack cell cuts n top n top []
  back : {i t : ℕ} {found : List ℕ} → TraceBack cell cuts n top (suc i) t found
      → TraceBack cell cuts n top i (t - at cuts i * apart (cell i t) (cell (suc i) t)) (apart (cell i t) (cell (suc i) t) ∷ found)

-- the trace is through with all labels
pub record TracedBack (cell : ℕ → ℕ → ℕ) (cuts : List ℕ) (n top : ℕ) (found : List ℕ) : Type 0 where
  pub left : ℕ
  pub trace : TraceBack cell cuts n top 0 left found

-- the table of all labels, the picks for the highest total that it reaches, and the answer: what the picks are worth, and the weight that the total
-- shows
pub record ReadOff (c : ℕ) (weights values cuts : List ℕ) (width : ℕ) (cells found : List ℕ) (a : Answer) : Type 0 where
  pub top : ℕ
  pub filled : Filled c weights cuts width (length weights) cells
  pub highest : Highest (cell_of c weights width cells (length weights)) width top
  pub traced : TracedBack (cell_of c weights width cells) cuts (length weights) top found
  pub says : a ≡ Says.Knapsack (total values found) (cell_of c weights width cells (length weights) top)
