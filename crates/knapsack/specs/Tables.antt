-- Cells alone: the tables as they are filled, label by label.
-- Assumes nothing.
use Rattle.std.specs.Prelude.{◌≡◌, ℕ, suc, ◌+◌, ◌*◌, ◌≤◌, ◌<◌, List, eqb}
use Rattle.meaning.specs.Lists.{at, if}
use Rattle.rows.specs.Rows.{GreatestRow, AnyCount}
use Rattle.rows.specs.Rounds.{LabelByLabel}

-- how often label i may be picked: once in kind 1, copies[i] times in kind 2
unfoldable pub limit_of : ℕ → List ℕ → ℕ → ℕ
limit_of kind copies i = if (eqb kind 1) 1 (at copies i)

-- the row of the first i labels, in a table with rows of a width
abbrev pub row_of : List ℕ → ℕ → ℕ → ℕ → ℕ
row_of cells width i c = at cells (i * width + c)

-- kinds 1 and 2: the rows up to that of the first i labels. The first is 0, and each other is made of the one before it and its label
pub record Filled (weights values : List ℕ) (limit : ℕ → ℕ) (width i : ℕ) (cells : List ℕ) : Type 0 where
  pub first : (c : ℕ) → c < width → row_of cells width 0 c ≡ 0
  pub next : (m : ℕ) → m < i → GreatestRow (λ x. x ≤ limit m) (row_of cells width m) (at weights m) (at values m) width (row_of cells width (suc m))

-- kind 3: the one row after the first i labels, any number of each; with none it is 0
abbrev pub Climbed : List ℕ → List ℕ → ℕ → ℕ → List ℕ → Type 0
Climbed weights values width i row =
    LabelByLabel (λ s. (c : ℕ) → c < width → at s c ≡ 0) (λ m s t. GreatestRow AnyCount (at s) (at weights m) (at values m) width (at t)) i row
