-- Rule 14 over some cells of a row, as `faults` tells it by cells alone.
-- Assumes nothing.
use mathlib.Core.Path.{◌≡◌, refl, sym, ap, ap₂, subst, ◌∙◌}
use Prim.Native.Nat.{ℕ, zero, suc, ◌+◌, ◌-◌, ◌*◌, ◌/◌, ◌%◌, ◌≤◌, ◌<◌, min}
use native.Mathlib.Nat.{div-eq_of_lt, lt_of_mul-lt-mul_right, mul-le-mul_right, one-mul, suc-mul, zero-mul}
use native.Mathlib.Decide.{dec_lt}
use native.Mathlib.Omega.{arith}
use mathlib.Core.Bool.{Bool, true, false, ◌&&◌}
use mathlib.Core.List.{List}
use lib.Arith.{digits_div}
use lib.Dec.{leb, ltb}
use lib.ListN.{length}
use borrow.Author.Tests.{lt-leb}
use Rattle.meaning.specs.Lists.{at}
use Rattle.meaning.specs.Job.{Job, Knapsack, labels, once, limited, free}
use Rattle.meaning.specs.Bounds.{most_budget, most_value}
use Rattle.meaning.specs.Lent.{cell_count}
use Rattle.meaning.specs.Knapsacks.{cell_number}
use Rattle.meaning.specs.Certificates.{below_with, cell_at, certificate_cell, certificate_cells}
use Rattle.meaning.specs.Certificates.{low_for_one, low_in_row, most_picks, some_of, too_low}
use Rattle.meaning.proofs.CellNumbers.{CellOf, cell_of}
use Rattle.meaning.proofs.Searches.{none_pass, none_passes, passing, some_passes, some_same}
use Rattle.meaning.proofs.Valid.{Valid, value_rule, weight_rule}
use Rattle.meaning.proofs.Covering.{rule_14_free}
use Rattle.faults.specs.LowRows.{Budgets, RowThere, below_count, below_one, low_in}
use Rattle.verdicts.specs.Asked.{InRow, Run, Together, knapsack_in}
use Rattle.verdicts.proofs.Taken.{taken_free, taken_limited, taken_once}

-- ---- kinds 1 and 2: a table

-- the knapsacks whose certificate is a table
pub data Tabled : Knapsack → Type 0 where
  once_tabled : Tabled once
  limited_tabled : Tabled limited

pub tabled : (kind : ℕ) → ¬ (kind ≡ 3) → Tabled (knapsack_in kind)
tabled kind not-3 = elim (dec_lt 1 kind) [
  | yes more ↦ subst Tabled (sym (taken_limited kind (λ e. absurd (omega arith)) not-3)) limited_tabled
  | no less ↦ elim (dec_lt 0 kind) [
    | yes some ↦ let one : kind ≡ 1 = omega arith in subst Tabled (sym (taken_once kind one)) once_tabled
    | no none ↦ subst Tabled (sym (taken_limited kind (λ e. absurd (omega arith)) not-3)) limited_tabled
  ]
]

-- what a table is
pub record TableOf (k : Knapsack) (j : Job) : Type 0 where
  pub many : certificate_cells k j ≡ cell_count j
  pub cell_is : (i c : ℕ) → certificate_cell k j i c ≡ cell_number j i c
  pub low_is : (cells : List ℕ) (m : ℕ) → too_low k j cells m ≡ low_in_row k j cells (m / (j.budget + 1)) (m % (j.budget + 1))
  pub in_row : (from end : ℕ) → Together k j from end → InRow j from end

pub table_of : {k : Knapsack} → Tabled k → (j : Job) → TableOf k j
unfolding certificate_cells certificate_cell too_low Together
table_of once_tabled j =
    record { many = refl; cell_is = λ i c. refl; low_is = λ cells m. refl; in_row = λ from end t. t }
table_of limited_tabled j =
    record { many = refl; cell_is = λ i c. refl; low_is = λ cells m. refl; in_row = λ from end t. t }

tabled_not_free : {k : Knapsack} → Tabled k → ¬ (k ≡ free)
tabled_not_free once_tabled e = let z : ◌≡◌ {A = ℕ} 0 1 = cc in absurd (omega arith)
tabled_not_free limited_tabled e = let z : ◌≡◌ {A = ℕ} 0 1 = cc in absurd (omega arith)

-- a kind that is taken for one isn't 3
pub tabled_not_3 : (kind : ℕ) → Tabled (knapsack_in kind) → ¬ (kind ≡ 3)
tabled_not_3 kind t e = tabled_not_free t (taken_free kind e)

-- ---- runs of cells: a row of a table after the other, or any in a single row; and what is told of a row of a table

module _ (j : Job) where
  abbrev width : ℕ
  width = j.budget + 1

  row_start : InRow j 0 0
  row_start = record { row = 0; starts = omega (arith, zero-mul width); ends = omega arith }

  row_less : (from end less : ℕ) → less ≤ end → InRow j from end → InRow j from less
  row_less from end less h r = record { row = r.row; starts = r.starts; ends = omega (arith, r.ends) }

  row_run : (from run last : ℕ) → run ≡ width → last ≤ from + run → InRow j from from → InRow j from last
  row_run from run last run_is h r = record { row = r.row; starts = r.starts; ends = omega arith }

  row_next : (from run last : ℕ) → run ≡ width → last ≡ min (from + run) (cell_count j) → from < cell_count j → InRow j from from → InRow j last last
  unfolding cell_count
  row_next from run last run_is last_is inside r =
      let before : r.row * width < (labels j + 1) * width = omega (arith, r.starts) in
      let few : r.row < labels j + 1 = lt_of_mul-lt-mul_right width before in
      let next = mul-le-mul_right width few in
      record { row = r.row + 1; starts = omega (arith, r.starts, suc-mul r.row width, next); ends = omega arith }

  pub together_start : (k : Knapsack) → Together k j 0 0
  unfolding Together
  together_start once = row_start
  together_start limited = row_start
  together_start free = tt

  pub together_less : (k : Knapsack) (from end less : ℕ) → less ≤ end → Together k j from end → Together k j from less
  unfolding Together
  together_less once from end less h t = row_less from end less h t
  together_less limited from end less h t = row_less from end less h t
  together_less free from end less h t = tt

  -- as many as are passed at once: in a table, a row
  module _ (run : ℕ) where
    pub together_run : (k : Knapsack) → (Tabled k → run ≡ width) → (from last : ℕ) → last ≤ from + run → Together k j from from
        → Together k j from last
    unfolding Together
    together_run once run_is from last h t = row_run from run last (run_is once_tabled) h t
    together_run limited run_is from last h t = row_run from run last (run_is limited_tabled) h t
    together_run free run_is from last h t = tt

    -- and from any place where a cell is left it has one, and none past the last
    pub run_there : (k : Knapsack) → (Tabled k → run ≡ width) → (from last count : ℕ) → 1 ≤ run → from < count → certificate_cells k j ≡ count
        → last ≡ min (from + run) count → Together k j from from → Run k j from last
    run_there k run_is from last count some left counted last_is t =
        record { some = omega arith; inside = omega arith; together = together_run k run_is from last (omega arith) t }

    pub together_next : (k : Knapsack) → (Tabled k → run ≡ width) → (from last : ℕ) → last ≡ min (from + run) (certificate_cells k j)
        → from < certificate_cells k j → Together k j from from → Together k j last last
    unfolding Together certificate_cells
    together_next once run_is from last last_is inside t = row_next from run last (run_is once_tabled) last_is inside t
    together_next limited run_is from last last_is inside t = row_next from run last (run_is limited_tabled) last_is inside t
    together_next free run_is from last last_is inside t = tt

  module _ {k : Knapsack} (t : TableOf k j) (cells : List ℕ) where
    -- ---- at one cell

    module _ (i c : ℕ) where
      abbrev w : ℕ
      w = at j.weights i

      below_is : (x : ℕ) → below_with k j cells i c x ≡ below_count cells ((i + 1) * width) width w (at j.values i) c x
      unfolding below_count below_with cell_at cell_number
      below_is x =
          elim (dec_lt c (w * x)) [
            | yes heavy ↦ rw (lt-leb (w * x) c heavy)
            | no light ↦
                let row : certificate_cell k j (suc i) c ≡ (i + 1) * width + c = t.cell_is (suc i) c ∙ omega (arith, suc-mul i width) in
                let place : certificate_cell k j i (c - w * x) ≡ (i + 1) * width + c - width - w * x =
                t.cell_is i (c - w * x) ∙ omega (arith, suc-mul i width) in
                ap (λ (b : Bool). leb (w * x) c && b)
                (ap₂ (λ (claim before : ℕ). ltb (at cells claim) (at cells before + at j.values i * x)) row place)
          ]

      low_row : low_in_row k j cells (suc i) c ≡ low_in cells ((i + 1) * width) width w (at j.values i) (most_picks k j i) c
      unfolding low_in_row low_in
      low_row =
          some_same (below_with k j cells i c) (below_count cells ((i + 1) * width) width w (at j.values i) c) (suc (most_picks k j i))
          (λ x h. below_is x)

      -- the cell of row i+1 and budget c
      pub low_cell_is : i < labels j → c < width
          → too_low k j cells ((i + 1) * width + c) ≡ low_in cells ((i + 1) * width) width w (at j.values i) (most_picks k j i) c
      unfolding cell_number
      low_cell_is label inside =
          let here : CellOf j (suc i) c = cell_of j (suc i) c label (omega arith) in
          let m = (i + 1) * width + c in
          let numbered : m ≡ cell_number j (suc i) c = omega (arith, suc-mul i width) in
          t.low_is cells m
          ∙ ap₂ (low_in_row k j cells) (ap (λ (n : ℕ). n / width) numbered ∙ here.row) (ap (λ (n : ℕ). n % width) numbered ∙ here.column)
          ∙ low_row

    -- ---- over the cells of a row from its start on

    -- row 0 may hold any claims
    pub row_0_low : (from end : ℕ) → InRow j from end → from < width → false ≡ some_of (λ (m : ℕ). too_low k j cells (from + m)) (end - from)
    unfolding low_in_row
    row_0_low from end r first =
        let less : r.row * width < 1 * width = omega (arith, r.starts, one-mul width) in
        let none : r.row < 1 = lt_of_mul-lt-mul_right width less in
        let zeroth : r.row ≡ 0 = omega arith in
        let start : from ≡ 0 = omega (arith, r.starts, ap (λ (i : ℕ). i * width) zeroth, zero-mul width) in
        sym (none_pass (λ (m : ℕ). too_low k j cells (from + m)) (end - from)
        (λ m inside.
        let within : from + m < width = omega (arith, r.ends) in
        t.low_is cells (from + m) ∙ ap (λ (i : ℕ). low_in_row k j cells i ((from + m) % width)) (div-eq_of_lt within)))

    -- the row of label i, as the code counts it
    pub record RowRead (from end i : ℕ) : Type 0 where
      pub label : i < labels j
      pub starts : from ≡ (i + 1) * width
      pub there : RowThere cells from width
      pub ends : end - from ≤ width

    pub row_read : (from end : ℕ) → length cells ≡ certificate_cells k j → InRow j from end → from < end → end ≤ certificate_cells k j → width ≤ from
        → RowRead from end (from / width - 1)
    unfolding cell_count
    row_read from end long r filled inside past =
        let n = labels j in
        let positive : 0 < width = omega arith in
        let many : length cells ≡ (n + 1) * width = long ∙ t.many in
        let whole : from ≡ r.row * width + 0 = omega (arith, r.starts) in
        let counted : from / width ≡ r.row = ap (λ (m : ℕ). m / width) whole ∙ digits_div r.row positive in
        let before : r.row * width < (n + 1) * width = omega (arith, r.starts, t.many) in
        let few : r.row < n + 1 = lt_of_mul-lt-mul_right width before in
        let not_0 : 1 ≤ r.row = some_row r.row (omega (arith, r.starts)) in
        let back : from / width - 1 + 1 ≡ r.row = omega arith in
        record {
          label = omega arith;
          starts = r.starts ∙ ap (λ (i : ℕ). i * width) (sym back);
          there = record {
            not_first = past;
            ends = omega (arith, r.starts, suc-mul r.row width, mul-le-mul_right width few);
          };
          ends = omega (arith, r.ends);
        }
      where
        some_row : (i : ℕ) → width ≤ i * width → 1 ≤ i
        some_row zero h = absurd (omega (arith, zero-mul width))
        some_row (suc i) h = omega arith

    -- what is asked of it keeps its bounds
    pub row_budgets : {from end i : ℕ} → Valid k j → RowRead from end i → from < end → (w v : ℕ) → w ≡ at j.weights i → v ≡ at j.values i
        → Budgets width (end - from) w v
    unfolding most_budget most_value
    row_budgets valid row filled w v w-is v-is = record {
      some = omega arith;
      inside = row.ends;
      narrow = omega (arith, valid.small);
      weighs = omega (arith, weight_rule k j valid _ row.label);
      small = omega (arith, value_rule k j valid _ row.label);
    }

    -- its cells are told of by the label that was read
    pub row_low : {from end i : ℕ} → RowRead from end i → (w v most : ℕ) → w ≡ at j.weights i → v ≡ at j.values i → most ≡ most_picks k j i
        → (r : Bool) → r ≡ some_of (low_in cells from width w v most) (end - from)
        → r ≡ some_of (λ (m : ℕ). too_low k j cells (from + m)) (end - from)
    row_low {from} {end} {i} row w v most w-is v-is most-is r told =
        let at_row : low_in cells from width w v most ≡ low_in cells ((i + 1) * width) width (at j.weights i) (at j.values i) (most_picks k j i) =
        ap₂ (λ (f x : ℕ). low_in cells f width x v most) row.starts w-is
        ∙ ap₂ (λ (x y : ℕ). low_in cells ((i + 1) * width) width (at j.weights i) x y) v-is most-is in
        told ∙ ap (λ (f : ℕ → Bool). some_of f (end - from)) at_row
        ∙ sym (some_same (λ (m : ℕ). too_low k j cells (from + m)) _ (end - from)
        (λ m inside. ap (λ (f : ℕ). too_low k j cells (f + m)) row.starts ∙ low_cell_is i m row.label (omega (arith, row.ends))))

-- ---- kind 3: a single row

pub free_low : {k : Knapsack} → k ≡ free → (j : Job) (cells : List ℕ) (from end : ℕ) (r : Bool)
    → r ≡ some_of (λ (m : ℕ). low_for_one j cells (from + m)) (end - from) → r ≡ some_of (λ (m : ℕ). too_low k j cells (from + m)) (end - from)
unfolding too_low
free_low e j cells from end r told = rw e told

module _ (cells : List ℕ) (from end : ℕ) where
  -- one label of these weights and values is at fault somewhere
  abbrev pub at_fault : List ℕ → List ℕ → ℕ → Bool
  at_fault weights values i = some_of (λ (m : ℕ). below_one cells (at weights i) (at values i) (from + m)) (end - from)

  -- the labels below i aren't
  pub record LabelsKept (weights values : List ℕ) (i : ℕ) : Type 0 where
    pub kept : (l : ℕ) → l < i → at_fault weights values l ≡ false

  module _ (j : Job) where
    -- what is told of a label
    pub label_told : (i w v : ℕ) → w ≡ at j.weights i → v ≡ at j.values i → (r : Bool)
        → r ≡ some_of (λ (m : ℕ). below_one cells w v (from + m)) (end - from) → r ≡ at_fault j.weights j.values i
    label_told i w v w-is v-is r told = told ∙ ap₂ (λ (x y : ℕ). some_of (λ (m : ℕ). below_one cells x y (from + m)) (end - from)) w-is v-is

    -- some label is at fault
    pub stretch_low : (i : ℕ) → i < labels j → at_fault j.weights j.values i ≡ true
        → true ≡ some_of (λ (m : ℕ). low_for_one j cells (from + m)) (end - from)
    unfolding low_for_one below_one
    stretch_low i here fault =
        let p = passing (λ (m : ℕ). below_one cells (at j.weights i) (at j.values i) (from + m)) (end - from) fault in
        sym (some_passes (λ (m : ℕ). low_for_one j cells (from + m)) (end - from) p.place p.inside
        (some_passes (λ i. below_with free j cells i (from + p.place) 1) (labels j) i here (rule_14_free j cells i (from + p.place) ∙ p.passes)))

    -- none is
    pub stretch_kept : (n : ℕ) → labels j ≤ n → LabelsKept j.weights j.values n
        → false ≡ some_of (λ (m : ℕ). low_for_one j cells (from + m)) (end - from)
    unfolding low_for_one below_one
    stretch_kept n all k =
        sym (none_pass (λ (m : ℕ). low_for_one j cells (from + m)) (end - from)
        (λ m inside. none_pass (λ i. below_with free j cells i (from + m) 1) (labels j)
        (λ i h.
        rule_14_free j cells i (from + m)
        ∙ none_passes (λ (m : ℕ). below_one cells (at j.weights i) (at j.values i) (from + m)) (end - from) (k.kept i (omega arith)) m inside)))
