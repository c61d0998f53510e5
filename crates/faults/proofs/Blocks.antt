-- A row in blocks of copies+1 weights: a column of a block, the columns of a block, the blocks of a row.
-- Assumes nothing.
use Rattle.std.proofs.Common.{◌≡◌, ℕ, ◌+◌, ◌-◌, ◌*◌, ◌/◌, ◌%◌, ◌<◌, ◌≤◌, min, Bool, List, subst, mul-le-mul_right, mod-lt, suc-mul, add-mul, lt_of_mul-lt-mul_right, div-add-mod', arith, below_more}
use native.Mathlib.Decide.{dec_lt}
use Rattle.faults.specs.Columns.{Finds, Low, High, LowWithin, HighWithin, HighAcross, HighColumn, HighBlock}
use Rattle.faults.proofs.Finding.{finds_as}
use Rattle.faults.proofs.Cells.{column_cell, same_cell, same_times, parts_times}

module _ (cells : List ℕ) (prior row width w v copies : ℕ) where
  -- how many budgets a block has
  abbrev span : ℕ
  span = copies * w + w

  -- what is kept of one count in the column from budget b on, of the column, and of the block from budget `base` on
  abbrev KeptCount : ℕ → ℕ → ℕ → Type 0
  KeptCount b e count = column_cell cells prior b w e + count * v ≤ column_cell cells row b w (e + count)

  abbrev KeptColumn : ℕ → Type 0
  KeptColumn b = HighColumn cells prior row width w v copies b

  abbrev KeptBlock : ℕ → Type 0
  KeptBlock base = HighBlock cells prior row width w v copies base

  -- ---- a column

  module _ (b end : ℕ) (end_is : end ≡ min (b + span) width) where
    -- a break within the block, of at most all copies
    pub column_low : LowWithin cells prior row end w v b → Low cells prior row width w v copies
    column_low l =
        let ends : (l.e + l.count) * w < (copies + 1) * w = omega (arith, l.inside, suc-mul copies w) in
        let few : l.e + l.count < copies + 1 = lt_of_mul-lt-mul_right w ends in
        let place : b + (l.e + l.count) * w ≡ b + l.e * w + l.count * w = omega (arith, add-mul l.e l.count w) in
        record {
          from = b + l.e * w;
          count = l.count;
          few = omega arith;
          inside = omega (arith, l.inside);
          below = omega (arith, l.below, same_cell cells row place);
        }

    module _ (weighs : 1 ≤ w) (within : HighWithin cells prior row end w v b) where
      -- the counts that stay in the block are kept, so those that leave it are left
      column_by : ((e count : ℕ) → e ≤ copies → count ≤ copies → copies < e + count → b + (e + count) * w < width → KeptCount b e count)
          → KeptColumn b
      column_by leaving = record {
        all = λ e count e-few few inside. elim (dec_lt copies (e + count)) [
          | yes far ↦ leaving e count e-few few far inside
          | no close ↦
              let near : e + count ≤ copies = omega arith in
              within.all e count (omega (arith, mul-le-mul_right w near))
        ];
      }

      -- another one follows
      column_high : HighAcross cells prior row width w v copies (b + w) → KeptColumn b
      column_high across = column_by leaving
        where
          leaving : (e count : ℕ) → e ≤ copies → count ≤ copies → copies < e + count → b + (e + count) * w < width → KeptCount b e count
          leaving e count e-few few far inside =
              let up = e + count - copies - 1 in
              let short = copies - count in
              let from-e : up + short + 1 ≡ e = omega arith in
              let to_e : copies + 1 + up ≡ e + count = omega arith in
              let all-copies : count + short ≡ copies = omega arith in
              let from : b + w + (up + short) * w ≡ b + e * w = omega (arith, suc-mul (up + short) w, same_times w from-e) in
              let to : b + w + copies * w + up * w ≡ b + (e + count) * w =
              omega (arith, parts_times w (copies + 1) up (e + count) to_e, suc-mul copies w) in
              omega (
                arith,
                across.all up short (omega arith) (omega arith),
                parts_times v count short copies all-copies,
                same_cell cells prior from,
                same_cell cells row to,
              )

      pub column_found : (r : Bool) → Finds r (Low cells prior row width w v copies) (HighAcross cells prior row width w v copies (b + w))
          → Finds r (Low cells prior row width w v copies) (KeptColumn b)
      column_found r told = finds_as r (λ l. l) column_high told

  -- ---- the columns of a block

  -- those of the block from `base` on that are before budget b
  pub record ColumnsKept (base b : ℕ) : Type 0 where
    pub from : base ≤ b
    pub high : (r : ℕ) → base + r < b → KeptColumn (base + r)

  module _ (base : ℕ) where
    pub columns_next : (b : ℕ) → ColumnsKept base b → KeptColumn b → ColumnsKept base (b + 1)
    columns_next b c here = record {
      from = omega (arith, c.from);
      high = λ r h. elim (dec_lt (base + r) b) [
        | yes earlier ↦ c.high r earlier
        | no last ↦ let same : b ≡ base + r = omega arith in subst KeptColumn same here
      ];
    }

  -- ---- the blocks of a row

  -- those before budget `base`
  pub record BlocksKept (base : ℕ) : Type 0 where
    pub n : ℕ
    pub reached : base ≡ n * span
    pub high : (m : ℕ) → m < n → KeptBlock (m * span)

  pub blocks_next : (base : ℕ) → BlocksKept base → KeptBlock base → BlocksKept (base + span)
  blocks_next base k here = record {
    n = k.n + 1;
    reached = omega (arith, k.reached, suc-mul k.n span);
    high = below_more (λ (m : ℕ). KeptBlock (m * span)) k.n k.high (subst KeptBlock k.reached here);
  }

  -- every budget is in some block, and in some column of it
  pub blocks_all : (base : ℕ) → 1 ≤ w → width ≤ base → BlocksKept base → High cells prior row width w v copies
  blocks_all base weighs past k = record {
    all = λ from count few inside.
        let m = from / span in
        let y = from % span in
        let e = y / w in
        let r = y % w in
        let whole : m * span + y ≡ from = div-add-mod' from span in
        let split : e * w + r ≡ y = div-add-mod' y w in
        let y-less : y < span = mod-lt from (omega arith) in
        let e-less : e * w < (copies + 1) * w = omega (arith, suc-mul copies w) in
        let e-few : e < copies + 1 = lt_of_mul-lt-mul_right w e-less in
        let m-less : m < k.n = lt_of_mul-lt-mul_right span (omega (arith, k.reached)) in
        let to : m * span + r + (e + count) * w ≡ from + count * w = omega (arith, add-mul e count w) in
        let start : m * span + r + e * w ≡ from = omega arith in
        omega (
          arith,
          ((k.high m m-less).all r (mod-lt y weighs) (omega arith)).all e count (omega arith) few (omega arith),
          same_cell cells prior start,
          same_cell cells row to,
        );
  }
