-- Numbers that fit their types, by the bounds: they are looked at here and nowhere else in this crate, but for the greatest budget beside the mark.
-- Assumes nothing.
use Prim.Native.Nat.{ℕ, ◌+◌, ◌*◌, ◌≤◌, ◌<◌}
use native.Mathlib.Nat.{mul-le-mul}
use native.Mathlib.Omega.{arith}
use Rattle.meaning.specs.Bounds.{most_labels, most_value, most_q}
use Rattle.meaning.proofs.Sections.{limit32}

-- a number of labels
pub count_fits : (m : ℕ) → m ≤ most_labels → m < limit32
unfolding most_labels
count_fits m few = omega arith

-- m times q
pub parts_fit : (m q : ℕ) → m ≤ most_labels → q ≤ most_q → m * q < limit32
unfolding most_labels most_q
parts_fit m q few small = omega (arith, mul-le-mul few small)

-- a sum of numbers within the bound of a value, one for each label: it stays within so many times the bound, and fits
pub sum_fits : (s x i : ℕ) → s ≤ most_value * i → x ≤ most_value → i < most_labels → (s + x ≤ most_value * (i + 1)) × (s + x < limit32)
unfolding most_value most_labels
sum_fits s x i so_far cheap few = (omega arith, omega arith)

-- a number of cells, which may pass 32 bits but not 64
pub cells_fit : (m width : ℕ) → m ≤ most_labels → width ≤ limit32 → (m + 1) * width < 18_446_744_073_709_551_616
unfolding most_labels
cells_fit m width few narrow = let rows : m + 1 ≤ most_labels + 1 = omega arith in omega (arith, mul-le-mul rows narrow)
