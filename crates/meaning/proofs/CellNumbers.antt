-- A cell by its number m, and by its row i and budget c: m is i(C+1)+c, i is m over C+1, and c is what that leaves.
-- Assumes nothing.
use mathlib.Core.Path.{◌≡◌}
use Prim.Native.Nat.{◌%◌, ◌+◌, ◌/◌, ◌<◌, ◌≤◌, ℕ}
use native.Mathlib.Nat.{div-add-mod', div-lt_iff_lt-mul, mod-lt}
use native.Mathlib.Omega.{arith}
use lib.Arith.{digits_div, digits_lt, digits_mod}
use Rattle.meaning.specs.Job.{Job, labels}
use Rattle.meaning.specs.Lent.{cell_count}
use Rattle.meaning.specs.Knapsacks.{cell_number}

-- the row and the budget of cell m
pub record RowAndBudget (j : Job) (m : ℕ) : Type 0 where
  pub row : m / (j.budget + 1) ≤ labels j
  pub column : m % (j.budget + 1) ≤ j.budget
  pub numbered : cell_number j (m / (j.budget + 1)) (m % (j.budget + 1)) ≡ m

pub row_and_budget : (j : Job) (m : ℕ) → m < cell_count j → RowAndBudget j m
unfolding cell_count cell_number
row_and_budget j m h =
    let pos : 0 < j.budget + 1 = omega arith in
    let row : m / (j.budget + 1) < labels j + 1 = (div-lt_iff_lt-mul pos).1 h in
    let column : m % (j.budget + 1) < j.budget + 1 = mod-lt m pos in
    record { row = omega arith; column = omega arith; numbered = div-add-mod' m (j.budget + 1) }

-- the number of the cell of row i and budget c
pub record CellOf (j : Job) (i c : ℕ) : Type 0 where
  pub inside : cell_number j i c < cell_count j
  pub row : cell_number j i c / (j.budget + 1) ≡ i
  pub column : cell_number j i c % (j.budget + 1) ≡ c

pub cell_of : (j : Job) (i c : ℕ) → i ≤ labels j → c ≤ j.budget → CellOf j i c
unfolding cell_count cell_number
cell_of j i c hi hc =
    let c' : c < j.budget + 1 = omega arith in
    record { inside = digits_lt (omega arith) c'; row = digits_div i c'; column = digits_mod i c' }
