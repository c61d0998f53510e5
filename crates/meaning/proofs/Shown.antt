-- Kinds 5 and 8: what is known of a cell that shows the least of some numbers, or that there is none.
-- Assumes nothing.
use mathlib.Core.Path.{◌≡◌}
use Prim.Native.Nat.{ℕ, ◌≤◌, ◌<◌}
use native.Mathlib.Omega.{arith}
use Rattle.meaning.specs.Cells.{LeastShown, no_way, shown, none_shown}

module _ {P : ℕ → Type 0} {cell : ℕ} where
  -- it is no more than any of them
  pub shown_least : LeastShown P cell → (x : ℕ) → P x → cell ≤ x
  shown_least (shown p least) x q = least x q
  shown_least (none_shown none e) x q = absurd (none x q)

  -- where there is one, it is one
  pub shown_by : LeastShown P cell → (x : ℕ) → P x → P cell
  shown_by (shown p least) x q = p
  shown_by (none_shown none e) x q = absurd (none x q)

  -- where it isn't the mark, too
  pub shown_some : LeastShown P cell → ¬ (cell ≡ no_way) → P cell
  shown_some (shown p least) other = p
  shown_some (none_shown none e) other = absurd (other e)

  -- none of them comes to the mark: so neither does the cell pass it, and where it is the mark there is none
  module _ (below : (x : ℕ) → P x → x < no_way) where
    pub at_most_mark : LeastShown P cell → cell ≤ no_way
    at_most_mark (shown p least) = omega (arith, below cell p)
    at_most_mark (none_shown none e) = omega arith

    pub marked_none : LeastShown P cell → cell ≡ no_way → (x : ℕ) → ¬ P x
    marked_none d e x q = omega (arith, below cell (shown_by d x q))
