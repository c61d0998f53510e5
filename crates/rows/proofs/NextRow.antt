-- Kinds 1 and 2: a row of the table from the row before it.
-- Assumes nothing.
use mathlib.Core.Path.{◌≡◌, sym, ◌∙◌}
use Prim.Native.Nat.{ℕ, ◌+◌, ◌-◌, ◌*◌, ◌/◌, ◌≤◌, ◌<◌, max, min}
use native.Mathlib.Nat.{mul-one, mul-div-le, mul-le-mul_left, min-le_right, zero-add}
use native.Mathlib.Omega.{arith}
use mathlib.Core.List.{List, ◌++◌}
use lib.ListN.{length, take, drop}
use Rattle.meaning.specs.Lists.{at}
use Rattle.meaning.specs.Bounds.{most_value}
use Rattle.rows.specs.Rows.{GreatestRow, Raised, Stored, Repeated, NextRow, Capped}
use Rattle.rows.proofs.Stores.{by}
use Rattle.rows.proofs.Counts.{greatest_none, greatest_part, greatest_limit, greatest_capped}
use Rattle.rows.proofs.Parts.{part_of, part_at, put_at, put_before, put_past}

-- a row that is raised once holds up to one of the label
greatest_one : (f h : ℕ → ℕ) (w v width : ℕ) → Raised f f h w v width → GreatestRow (λ x. x ≤ 1) f w v width h
unfolding GreatestRow
greatest_one f h w v width up c inside =
    rw zero-add at (greatest_part f f h w v 0 1 width (omega arith) (λ d l. greatest_none f w v d) (rw (mul-one w, mul-one v) up) c inside)

-- a row with the same cells
row_same : (May : ℕ → Type 0) (f g h : ℕ → ℕ) (w v width : ℕ) → ((c : ℕ) → c < width → g c ≡ h c)
    → GreatestRow May f w v width g → GreatestRow May f w v width h
unfolding GreatestRow
row_same May f g h w v width e greatest c inside = rw (← e c inside) (greatest c inside)

-- s is the table before, t with the row copied up to `start`, u with it raised from there on
module _ (s t u : List ℕ) (from width w v most start : ℕ)
    (none : most ≡ 0 → start ≡ width) (some : 0 < most → start ≡ w)
    (copied : Stored s t (from + width) 0 start (λ c. at s (from + c)))
    (raised : Stored t u (from + width) start width (λ c. max (at t (from + c)) (at t (from + (c - start)) + v))) where
  rows_before : (k : ℕ) → k < from + width → at u k ≡ at s k
  rows_before k h = raised.before k (omega arith) ∙ copied.before k (omega arith)

  rows_past : start ≤ width → (k : ℕ) → from + width + width ≤ k → at u k ≡ at s k
  rows_past within k h = raised.past k h ∙ copied.past k (omega arith)

  same_below : (c : ℕ) → c < start → at u (from + width + c) ≡ at s (from + c)
  same_below c h = raised.before (from + width + c) (omega arith) ∙ copied.cells c (omega arith) h

  row_copied : (c : ℕ) → c < width → at t (from + c) ≡ at s (from + c)
  row_copied c h = copied.before (from + c) (omega arith)

  -- up to one of the label, or none where none may be picked
  first_one : GreatestRow (λ x. x ≤ min 1 most) (λ c. at s (from + c)) w v width (λ c. at u (from + width + c))
  unfolding GreatestRow
  first_one =
      by 0 most
      (λ h.
      let here : start ≡ w = some h in
      let one : 1 ≡ min 1 most = omega arith in
      rw (← one) (greatest_one (λ c. at s (from + c)) (λ c. at u (from + width + c)) w v width (record {
        short = λ c l m. same_below c (omega arith);
        long = λ c l m. raised.cells c (omega arith) l ∙ rw (here, row_copied c l, row_copied (c - w) (omega arith));
      })))
      (λ h c l.
      let here : start ≡ width = none (omega arith) in
      let zero : 0 ≡ min 1 most = omega arith in
      rw (← zero, same_below c (omega arith)) (greatest_none (λ d. at s (from + d)) w v c))

  first_part : from + width + width ≤ length u
      → GreatestRow (λ x. x ≤ min 1 most) (λ c. at s (from + c)) w v width (at (part_of u (from + width) width))
  first_part fits =
      row_same (λ x. x ≤ min 1 most) (λ c. at s (from + c)) (λ c. at u (from + width + c)) (at (part_of u (from + width) width)) w v width
      (λ c h. sym (part_at u (from + width) width fits c h)) first_one

  -- which leaves the row capped
  pub part_capped : 1 ≤ w → v ≤ most_value → from + width + width ≤ length u → Capped (λ c. at s (from + c)) width
      → Capped (at (part_of u (from + width) width)) width
  part_capped pos cheap fits capped =
      greatest_capped (λ x. x ≤ min 1 most) (λ c. at s (from + c)) (at (part_of u (from + width) width)) w v width pos cheap capped (first_part fits)

  -- then up to `limit` of it, by parts in place
  module _ (row : List ℕ) (limit : ℕ) (pos : 1 ≤ w) (fits : from + width + width ≤ length u) (long : length row ≡ width) (within : start ≤ width)
      (is-most : most ≡ min limit ((width - 1) / w)) (parts : Repeated (part_of u (from + width) width) row w v width most) where
    pub next_made : let to = from + width in NextRow s (take to u ++ (row ++ drop (to + width - to) (drop to u))) from width w v limit
    unfolding Repeated GreatestRow
    next_made = record {
      made = λ c l.
          let all = parts (λ d. at s (from + d)) (first_part fits) c l in
          rw (put_at u (from + width) width fits row c (omega arith))
          (greatest_limit (λ d. at s (from + d)) w v c (at row c) limit (width - 1) pos (omega arith) (rw is-most at all));
      before = λ k l. put_before u (from + width) width fits row k l ∙ rows_before k l;
      past = λ k l. put_past u (from + width) width fits row long k l ∙ rows_past within k l;
    }

-- as many as the budget holds are lighter than the row is wide
pub most_light : (limit w width most : ℕ) → 0 < width → most ≡ min limit ((width - 1) / w) → w * most < width
most_light limit w width most pos e = rw e (omega (arith, mul-le-mul_left w (min-le_right limit ((width - 1) / w)), mul-div-le (width - 1) w))

-- so it is raised from a budget within the row on
pub start_within : (w most width start : ℕ) → (most ≡ 0 → start ≡ width) → (0 < most → start ≡ w) → w * most < width → start ≤ width
start_within w most width start none some light =
    by 0 most
    (λ h. omega (arith, some h, mul-le-mul_left w h, mul-one w))
    (λ h. omega (arith, none (omega arith)))
