-- What the answer says of a row by the rule, at the budgets below `end`.
-- Assumes nothing.
use Rattle.std.proofs.Common.{◌≡◌, ℕ, suc, ◌+◌, ◌-◌, ◌*◌, ◌/◌, ◌<◌, ◌≤◌, min, max, Bool, true, false, ◌&&◌, ltb, leb, List, sym, ap, ap₂, mul-le-mul_right, suc-mul, mul_comm, lt_of_mul-lt-mul_right, zero-mul, div-mul-le_self, arith, le-ltb, lt-ltb, le-leb}
use native.Mathlib.Decide.{dec_lt}
use native.Mathlib.Nat.{lt-div-mul-add}
use borrow.Author.Tests.{lt-leb}
use Rattle.meaning.specs.Lists.{at}
use Rattle.meaning.specs.Certificates.{some_of}
use Rattle.meaning.proofs.Searches.{some_passes, none_pass}
use Rattle.faults.specs.LowRows.{below_count, below_one, low_in}
use Rattle.faults.specs.Columns.{Finds, CopiesFit, Low, High, LowAt, HighAt}
use Rattle.faults.proofs.Finding.{finds_is}
use Rattle.faults.proofs.Cells.{same_cell, same_times}

-- ---- the rule's test at budget c: so much weight fits, and the claim is below

module _ (weight c claim other : ℕ) where
  test_low : weight ≤ c → claim < other → (leb weight c && ltb claim other) ≡ true
  test_low fits low = ap₂ ◌&&◌ (le-leb weight c fits) (lt-ltb claim other low)

  test_high : weight ≤ c → other ≤ claim → (leb weight c && ltb claim other) ≡ false
  test_high fits high = ap₂ ◌&&◌ (le-leb weight c fits) (le-ltb claim other high)

  test_heavy : c < weight → (leb weight c && ltb claim other) ≡ false
  test_heavy heavy = ap (λ (b : Bool). b && ltb claim other) (lt-leb weight c heavy)

-- ---- a row of a table

module _ (cells : List ℕ) (row width end w v copies : ℕ) (after : width ≤ row) where
  broken_row : Low cells (row - width) row end w v copies → some_of (low_in cells row width w v copies) end ≡ true
  unfolding low_in below_count
  broken_row l =
      let c = l.from + l.count * w in
      let weighs : l.count * w ≡ w * l.count = mul_comm l.count w in
      let place : row - width + l.from ≡ row + c - width - w * l.count = omega arith in
      some_passes (low_in cells row width w v copies) end c l.inside
      (some_passes (below_count cells row width w v c) (suc copies) l.count (omega (arith, l.few))
      (test_low (w * l.count) c (at cells (row + c)) (at cells (row + c - width - w * l.count) + v * l.count) (omega arith)
      (omega (arith, l.below, ap (at cells) place, mul_comm l.count v))))

  module _ (h : High cells (row - width) row end w v copies) where
    kept_count : (c count : ℕ) → c < end → count ≤ copies → below_count cells row width w v c count ≡ false
    unfolding below_count
    kept_count c count inside few =
        let claim = at cells (row + c) in
        let other = at cells (row + c - width - w * count) + v * count in
        elim (dec_lt c (w * count)) [
          | yes heavy ↦ test_heavy (w * count) c claim other heavy
          | no light ↦
              let from = c - w * count in
              let weighs : count * w ≡ w * count = mul_comm count w in
              let to : from + count * w ≡ c = omega arith in
              let place : row - width + from ≡ row + c - width - w * count = omega arith in
              test_high (w * count) c claim other (omega arith)
              (omega (arith, h.all from count few (omega arith), ap (at cells) place, same_cell cells row to, mul_comm count v))
        ]

    kept_row : some_of (low_in cells row width w v copies) end ≡ false
    unfolding low_in
    kept_row =
        none_pass (low_in cells row width w v copies) end
        (λ c inside. none_pass (below_count cells row width w v c) (suc copies) (λ count few. kept_count c count inside (omega arith)))

-- ---- as much of the weight, and as many copies, as there is room for

module _ (end w weight : ℕ) (weight_is : weight ≡ min w end) where
  -- a count that fits, by its cut weight or its own, weighs the same by both
  cut_same : (count x : ℕ) → weight ≤ x → count * x < end → count * weight ≡ count * w
  cut_same count x no_less h =
      elim (dec_lt w end) [
        | yes light ↦ let same : weight ≡ w = omega arith in ap (λ (y : ℕ). count * y) same
        | no heavy ↦
            let less : count * x < 1 * x = omega arith in
            let fewer : count < 1 = lt_of_mul-lt-mul_right x less in
            let none : count ≡ 0 = omega arith in
            omega (arith, same_times weight none, same_times w none, zero-mul weight, zero-mul w)
      ]

  module _ (copies fit : ℕ) (weighs : 1 ≤ w) (some : 1 ≤ end) (fit_is : fit ≡ min copies ((end - 1) / weight)) where
    -- so many copies do fit
    pub part_fits : end ≤ 65_536 → CopiesFit end weight fit
    part_fits narrow =
        let few : fit ≤ (end - 1) / weight = omega arith in
        record {
          weighs = omega arith;
          light = omega arith;
          narrow = narrow;
          fit = omega (arith, mul-le-mul_right weight few, div-mul-le_self (end - 1) weight);
        }

    module _ (cells : List ℕ) (prior row v : ℕ) where
      -- a break for them is one for the label's own, and so is none
      own_low : Low cells prior row end weight v fit → Low cells prior row end w v copies
      own_low l =
          let product : l.count * weight ≡ l.count * w = cut_same l.count weight (omega arith) (omega (arith, l.inside)) in
          record {
            from = l.from;
            count = l.count;
            few = omega (arith, l.few);
            inside = omega (arith, l.inside);
            below = omega (arith, l.below, ap (λ (m : ℕ). at cells (row + (l.from + m))) product);
          }

      own_high : High cells prior row end weight v fit → High cells prior row end w v copies
      own_high h = record {
        all = λ from count few inside.
            let product : count * weight ≡ count * w = cut_same count w (omega arith) (omega arith) in
            let room : end - 1 < (end - 1) / weight * weight + weight = lt-div-mul-add {a = end - 1} {b = weight} (omega arith) in
            let less : count * weight < ((end - 1) / weight + 1) * weight = omega (arith, suc-mul ((end - 1) / weight) weight) in
            let within : count < (end - 1) / weight + 1 = lt_of_mul-lt-mul_right weight less in
            omega (arith, h.all from count (omega arith) (omega arith), ap (λ (m : ℕ). at cells (row + (from + m))) product);
      }

    pub part_found : (cells : List ℕ) (row width v : ℕ) → width ≤ row → (r : Bool)
        → Finds r (Low cells (row - width) row end weight v fit) (High cells (row - width) row end weight v fit)
        → r ≡ some_of (low_in cells row width w v copies) end
    part_found cells row width v after r told =
        finds_is r (some_of (low_in cells row width w v copies) end)
        (λ l. broken_row cells row width end w v copies after (own_low cells (row - width) row v l))
        (λ h. kept_row cells row width end w v copies after (own_high cells (row - width) row v h)) told

-- ---- a single row: one of the label, at the budgets from `from` on and below `end`

module _ (cells : List ℕ) (w v from end start : ℕ) (start_is : start ≡ max from w) where
  -- the rule at the budget that is i more
  abbrev low_after : ℕ → Bool
  low_after i = below_one cells w v (from + i)

  -- the label doesn't fit
  pub too_heavy : end ≤ start → false ≡ some_of low_after (end - from)
  unfolding below_one
  too_heavy h =
      sym (none_pass low_after (end - from)
      (λ i inside. test_heavy w (from + i) (at cells (from + i)) (at cells (from + i - w) + v) (omega arith)))

  module _ (fits : start < end) where
    stretch_broken : LowAt cells (start - w) (start - w) (end - start) w v → some_of low_after (end - from) ≡ true
    unfolding below_one
    stretch_broken l =
        let c = start + l.from in
        let i = c - from in
        let claim : start - w + (l.from + w) ≡ from + i = omega arith in
        let other : start - w + l.from ≡ from + i - w = omega arith in
        some_passes low_after (end - from) i (omega (arith, l.inside))
        (test_low w (from + i) (at cells (from + i)) (at cells (from + i - w) + v) (omega arith)
        (omega (arith, l.below, ap (at cells) claim, ap (at cells) other)))

    stretch_kept : HighAt cells (start - w) (start - w) (end - start) w v → some_of low_after (end - from) ≡ false
    unfolding below_one
    stretch_kept h =
        none_pass low_after (end - from)
        (λ i inside. elim (dec_lt (from + i) w) [
          | yes heavy ↦ test_heavy w (from + i) (at cells (from + i)) (at cells (from + i - w) + v) heavy
          | no light ↦
              let c = from + i - start in
              let claim : start - w + (c + w) ≡ from + i = omega arith in
              let other : start - w + c ≡ from + i - w = omega arith in
              test_high w (from + i) (at cells (from + i)) (at cells (from + i - w) + v) (omega arith)
              (omega (arith, h.all c (omega arith), ap (at cells) claim, ap (at cells) other))
        ])

    pub stretch_found : (r : Bool)
        → Finds r (LowAt cells (start - w) (start - w) (end - start) w v) (HighAt cells (start - w) (start - w) (end - start) w v)
        → r ≡ some_of low_after (end - from)
    stretch_found r told = finds_is r (some_of low_after (end - from)) stretch_broken stretch_kept told
