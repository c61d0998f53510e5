-- Cells alone: a row by totals as it is made label by label, and how the picks are read off it.
-- Assumes nothing.
use Rattle.std.specs.Prelude.{◌≡◌, ℕ, suc, ◌-◌, ◌≤◌, ◌<◌, ◌&&◌, not, List, eqb, length, set}
use Rattle.meaning.specs.Lists.{at, if}
use Rattle.meaning.specs.Cells.{no_way}
use Rattle.rows.specs.Rows.{Joined, FirstAlone}
use Rattle.rows.specs.Rounds.{LabelByLabel}

-- a total's cell with label i more, counted from 1: i where the total was not reached before, and what the label leaves was
unfoldable pub first_by : ℕ → ℕ → ℕ → ℕ
first_by i without rest = if (eqb without no_way && not (eqb rest no_way)) i without

-- the row after the first i labels: with none, total 0 shows 0, and every other total the mark
abbrev pub Grown : List ℕ → ℕ → ℕ → List ℕ → Type 0
Grown weights width i row =
    LabelByLabel (FirstAlone 0 no_way width) (λ m s t. Joined (first_by (suc m)) (at s) (at s) (at t) (at weights m) width) i row

-- the row after all labels
abbrev pub FirstsGrown : List ℕ → ℕ → List ℕ → Type 0
FirstsGrown weights width row = Grown weights width (length weights) row

-- total t shows a label, counted from 1, that isn't too heavy for it, and what the label leaves shows an earlier one
pub record ShowsLabel (row : ℕ → ℕ) (weights : List ℕ) (t : ℕ) : Type 0 where
  pub some_label : 0 < row t
  pub one_of : row t ≤ length weights
  pub light : at weights (row t - 1) ≤ t
  pub earlier : row (t - at weights (row t - 1)) < row t

-- a row of so many totals from which the picks can be read off: its last total isn't marked, nor does the mark stand for a label, and every total
-- above 0 that isn't marked shows a label
pub record Traceable (row : ℕ → ℕ) (weights : List ℕ) (width : ℕ) : Type 0 where
  pub wide : 0 < width
  pub unmarked : ¬ (row (width - 1) ≡ no_way)
  pub few : length weights < no_way
  pub labelled : (t : ℕ) → 0 < t → t < width → ¬ (row t ≡ no_way) → ShowsLabel row weights t

-- the trace off a row from the total `top`. It has come down to total t; `picks` has 1 for each label that was shown on the way, and 0 for the others
pub data TraceOff (row : ℕ → ℕ) (weights : List ℕ) (top : ℕ) : ℕ → List ℕ → Type 0 where
  start : {picks : List ℕ} → length picks ≡ length weights → ((m : ℕ) → m < length weights → at picks m ≡ 0) → TraceOff row weights top top picks
  taken : {t : ℕ} {picks : List ℕ} → TraceOff row weights top t picks → 0 < t
      → TraceOff row weights top (t - at weights (row t - 1)) (set picks (row t - 1) 1)
