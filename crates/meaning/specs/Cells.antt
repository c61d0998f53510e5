-- Cells that show the least of some numbers, where there may be none.
-- Assumes nothing.
use Rattle.std.specs.Prelude.{◌≡◌, ℕ, ◌≤◌}

-- what a cell shows where there is no way
unfoldable pub no_way : ℕ
no_way = 4_294_967_295

-- a cell that shows the least of the numbers with P, or `no_way` where there is none
pub data LeastShown (P : ℕ → Type 0) (cell : ℕ) : Type 0 where
  shown : P cell → ((x : ℕ) → P x → cell ≤ x) → LeastShown P cell
  none_shown : ((x : ℕ) → ¬ P x) → cell ≡ no_way → LeastShown P cell
