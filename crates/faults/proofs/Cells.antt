-- The cells of a row and of a column, what counts weigh, and how many copies fit a row.
-- Assumes nothing.
use Rattle.std.proofs.Common.{◌≡◌, ℕ, ◌+◌, ◌*◌, ◌<◌, ◌≤◌, List, ap, add-mul, le-mul_of_pos_right, arith}
use Rattle.meaning.specs.Lists.{at}

-- cell e of the column from budget b on, in the row that starts at `start`
abbrev pub column_cell : List ℕ → ℕ → ℕ → ℕ → ℕ → ℕ
column_cell cells start b w e = at cells (start + (b + e * w))

-- at the same budget stands the same
pub same_cell : (cells : List ℕ) (start : ℕ) {c d : ℕ} → c ≡ d → at cells (start + c) ≡ at cells (start + d)
same_cell cells start same = ap (λ (c : ℕ). at cells (start + c)) same

-- equal counts weigh, and are worth, the same
pub same_times : (w : ℕ) {m n : ℕ} → m ≡ n → m * w ≡ n * w
same_times w same = ap (λ (k : ℕ). k * w) same

-- and two counts what they do together
pub parts_times : (w m n all : ℕ) → m + n ≡ all → m * w + n * w ≡ all * w
parts_times w m n all same = omega (arith, add-mul m n w, same_times w same)

-- a row has room for so many copies at most
pub few_copies : (copies w width : ℕ) → 1 ≤ w → copies * w < width → width ≤ 65_536 → copies ≤ 65_535
few_copies copies w width weighs fit narrow = omega (arith, le-mul_of_pos_right {m = w} copies weighs)
