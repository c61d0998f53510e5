-- Cells alone: a table of least weights by total, with a row for each label that remains and one for none of them.
-- Assumes nothing.
use Rattle.std.specs.Prelude.{◌≡◌, ℕ, suc, ◌+◌, ◌*◌, ◌≤◌, ◌<◌, min, List, [], ◌∷◌, leb, length}
use Rattle.meaning.specs.Lists.{at, if}
use Rattle.meaning.specs.Cells.{no_way}
use Rattle.meaning.specs.Job.{job_of}
use Rattle.meaning.specs.Cuts.{remain_of}
use Rattle.rows.specs.Rows.{Joined, FirstAlone}

-- ---- a row made of the row before it

-- a cell with a label of weight w more: the lesser of `without` and of `less` with the label, where that is within c
unfoldable pub lighter : ℕ → ℕ → ℕ → ℕ → ℕ
lighter c w without less = if (leb (less + w) c) (min without (less + w)) without

-- t is s with the row after the one at `from` made of it and a label of weight w and cut value a; the cells before that row are kept
pub record NextWeights (s t : List ℕ) (from width c w a : ℕ) : Type 0 where
  pub made : Joined (lighter c w) (λ k. at s (from + k)) (λ k. at s (from + k)) (λ k. at t (from + width + k)) a width
  pub before : (k : ℕ) → k < from + width → at t k ≡ at s k

-- a label more, and where the last row starts then: a label heavier than c is left aside, any other makes a row
pub data LabelAdded (s t : List ℕ) (from width c w a : ℕ) : ℕ → Type 0 where
  aside : c < w → t ≡ s → LabelAdded s t from width c w a from
  row_made : w ≤ c → NextWeights s t from width c w a → LabelAdded s t from width c w a (from + width)

-- ---- the table

-- the number of the row of the first i labels: as many of them remain. It goes by the weights and c, and by nothing else of a job
abbrev pub row_of : ℕ → List ℕ → ℕ → ℕ
row_of c weights i = remain_of (job_of 9 (c ∷ []) weights [] []) i

-- the cell of the first i labels and total t, in a table with rows of a width
abbrev pub cell_of : ℕ → List ℕ → ℕ → List ℕ → ℕ → ℕ → ℕ
cell_of c weights width cells i t = at cells (row_of c weights i * width + t)

-- a table of so many cells, with a row for each label that remains and one for none: no such label's cut value is past a row's last total
pub record Roomy (c : ℕ) (weights cuts : List ℕ) (width size : ℕ) : Type 0 where
  pub wide : 0 < width
  pub within : (i : ℕ) → i < length weights → at weights i ≤ c → at cuts i < width
  pub whole : (row_of c weights (length weights) + 1) * width ≡ size

-- the rows up to that of the first i labels: in the first total 0 alone is reached, and each label that remains makes its row of the one before
pub record Filled (c : ℕ) (weights cuts : List ℕ) (width i : ℕ) (cells : List ℕ) : Type 0 where
  pub first : FirstAlone 0 no_way width cells
  pub next : (m : ℕ) → m < i → at weights m ≤ c
      → Joined (lighter c (at weights m)) (cell_of c weights width cells m) (cell_of c weights width cells m)
      (cell_of c weights width cells (suc m)) (at cuts m) width
