-- Rule 14 as an order between cells; cells that keep it are no less than the values they stand for, and exact cells keep it. What a knapsack
-- brings is which counts the rule asks about, and that every allowed count follows; the argument is made once over the allowed counts.
-- Assumes nothing.
use mathlib.Core.Path.{◌∙◌, ◌≡◌, ap, ap₂, refl, subst, sym}
use mathlib.Core.Option.{none}
use Prim.Native.Nat.{◌%◌, ◌*◌, ◌+◌, ◌-◌, ◌/◌, ◌<◌, ◌≤◌, suc, zero, zero-le, ℕ}
use native.Mathlib.Nat.{add-zero, le-mul_of_pos_right, le_of_eq, le_refl, le_trans, mul_comm, mul-one, mul-suc, mul-zero, sub-zero}
use native.Mathlib.Decide.{dec_lt}
use native.Mathlib.Omega.{arith}
use mathlib.Core.Bool.{◌&&◌, ◌||◌, false}
use mathlib.Core.List.{List, [], ◌++◌, ◌∷◌}
use lib.Dec.{leb, leb-zero, ltb}
use borrow.Author.Tests.{le-leb, le-ltb, lt-leb, ltb-false}
use Rattle.meaning.specs.Lists.{at, total}
use Rattle.meaning.specs.Job.{Job, Knapsack, free, labels, limited, once}
use Rattle.meaning.specs.Bounds.{most_budget, most_of_one}
use Rattle.meaning.specs.Lent.{cell_count}
use Rattle.meaning.specs.Knapsacks.{Best, BestValue, Fits, FullTable, MayPick, OneRow, ValueTable, cell_number}
use Rattle.meaning.specs.Certificates.{below_with, cell_at, certificate_cell, certificate_cells, low_cell, low_for_one, low_in_row, most_picks}
use Rattle.meaning.specs.Certificates.{some_of, too_low}
use Rattle.meaning.proofs.Totals.{empty_of, more_total, one_more, total_none, total_with}
use Rattle.meaning.proofs.Steps.{fits_less, fits_more}
use Rattle.meaning.proofs.Free.{free_more}
use Rattle.meaning.proofs.CellNumbers.{CellOf, RowAndBudget, cell_of, row_and_budget}
use Rattle.meaning.proofs.Valid.{Valid, weight_rule}
use Rattle.meaning.proofs.Searches.{first_none, none_first, none_pass, none_passes, some_fewer}

-- ---- rule 14 at one count, as an order

module _ (k : Knapsack) (j : Job) (cells : List ℕ) (i c x : ℕ) where
  abbrev w : ℕ
  w = at j.weights i

  abbrev v : ℕ
  v = at j.values i

  -- the rule holds, so where x fit K(i+1,c) is no less
  pub not_below : below_with k j cells i c x ≡ false → w * x ≤ c → cell_at k j cells i (c - w * x) + v * x ≤ cell_at k j cells (suc i) c
  unfolding below_with
  not_below e light = ltb-false _ _ (rw (le-leb (w * x) c light) at e)

  -- and back
  pub below_not : (w * x ≤ c → cell_at k j cells i (c - w * x) + v * x ≤ cell_at k j cells (suc i) c) → below_with k j cells i c x ≡ false
  unfolding below_with
  below_not h =
      elim (dec_lt c (w * x)) [
        | yes heavy ↦ rw (lt-leb (w * x) c heavy)
        | no light ↦ ap₂ ◌&&◌ (le-leb (w * x) c (omega arith)) (le-ltb _ _ (h (omega arith)))
      ]

-- ---- rule 14 at every cell, as an order

-- the counts of label i that the rule asks about: all that it may have; in kind 3, one
unfoldable pub Asks : Knapsack → Job → ℕ → ℕ → Type 0
Asks once j i x = x ≤ most_picks once j i
Asks limited j i x = x ≤ most_picks limited j i
Asks free j i x = x ≡ 1

-- K(i+1,c) is no less than K(i,c - their weight) plus their value, for counts that fit
pub record NoneBelow (k : Knapsack) (j : Job) (cells : List ℕ) (i x : ℕ) : Type 0 where
  pub no_less : (c : ℕ) → c ≤ j.budget → at j.weights i * x ≤ c
      → cell_at k j cells i (c - at j.weights i * x) + at j.values i * x ≤ cell_at k j cells (suc i) c

-- for every label and every count that is asked about
pub record RuleKept (k : Knapsack) (j : Job) (cells : List ℕ) : Type 0 where
  pub none_below : (i x : ℕ) → i < labels j → Asks k j i x → NoneBelow k j cells i x

module _ (j : Job) (cells : List ℕ) where
  abbrev width : ℕ
  width = j.budget + 1

  -- kinds 1 and 2: no row is too low
  rows_kept : (k : Knapsack) → ((m : ℕ) → m < cell_count j → low_in_row k j cells (m / width) (m % width) ≡ false)
      → (i x : ℕ) → i < labels j → x ≤ most_picks k j i → NoneBelow k j cells i x
  unfolding low_in_row
  rows_kept k kept i x hi few = record {
    no_less = λ c hc light.
        let here : CellOf j (suc i) c = cell_of j (suc i) c hi hc in
        let row : low_in_row k j cells (suc i) c ≡ false =
        sym (ap₂ (low_in_row k j cells) here.row here.column) ∙ kept (cell_number j (suc i) c) here.inside in
        not_below k j cells i c x (none_passes (below_with k j cells i c) (suc (most_picks k j i)) row x (omega arith)) light;
  }

  -- and back
  kept_rows : (k : Knapsack) → ((i x : ℕ) → i < labels j → x ≤ most_picks k j i → NoneBelow k j cells i x)
      → (i c : ℕ) → i ≤ labels j → c ≤ j.budget → low_in_row k j cells i c ≡ false
  unfolding low_in_row
  kept_rows k h zero c hi hc = refl
  kept_rows k h (suc i) c hi hc =
      none_pass (below_with k j cells i c) (suc (most_picks k j i))
      (λ x few. below_not k j cells i c x (λ light. (h i x hi (omega arith)).no_less c hc light))

  -- no cell is too low exactly where the rule is kept
  pub rule_in : (k : Knapsack) → low_cell k j cells ≡ none → RuleKept k j cells
  unfolding low_cell too_low certificate_cells Asks low_for_one
  rule_in once e = record { none_below = rows_kept once (first_none (too_low once j cells) (cell_count j) e) }
  rule_in limited e = record { none_below = rows_kept limited (first_none (too_low limited j cells) (cell_count j) e) }
  rule_in free e = record {
    none_below = λ i x hi one. record {
      no_less = λ c hc light.
          let row = first_none (too_low free j cells) width e c (omega arith) in
          not_below free j cells i c x
          (ap (below_with free j cells i c) one ∙ none_passes (λ i. below_with free j cells i c 1) (labels j) row i hi) light;
    };
  }

  rows_out : (k : Knapsack) → ((i x : ℕ) → i < labels j → x ≤ most_picks k j i → NoneBelow k j cells i x)
      → (m : ℕ) → m < cell_count j → low_in_row k j cells (m / width) (m % width) ≡ false
  rows_out k h m inside = let here : RowAndBudget j m = row_and_budget j m inside in kept_rows k h (m / width) (m % width) here.row here.column

  pub rule_out : (k : Knapsack) → RuleKept k j cells → low_cell k j cells ≡ none
  unfolding low_cell too_low certificate_cells Asks low_for_one
  rule_out once r = none_first (too_low once j cells) (cell_count j) (rows_out once r.none_below)
  rule_out limited r = none_first (too_low limited j cells) (cell_count j) (rows_out limited r.none_below)
  rule_out free r =
      none_first (too_low free j cells) width
      (λ c inside. none_pass (λ i. below_with free j cells i c 1) (labels j)
      (λ i hi. below_not free j cells i c 1 (λ light. (r.none_below i 1 hi refl).no_less c (omega arith) light)))

-- ---- every allowed count

-- the counts that a kind allows, and that weigh no more than C, are from 0 to the most that a certificate may show
pub record CountsShown (k : Knapsack) (j : Job) : Type 0 where
  pub within : (i x : ℕ) → i < labels j → MayPick k (at j.copies i) x → at j.weights i * x ≤ j.budget → x ≤ most_picks k j i
  pub allowed : (i x : ℕ) → x ≤ most_picks k j i → MayPick k (at j.copies i) x

-- a label that weighs something fits no more often than C says
pub fits_often : {k : Knapsack} {j : Job} → Valid k j → (i x : ℕ) → i < labels j → at j.weights i * x ≤ j.budget → x ≤ most_budget
fits_often {k} {j} v i x hi light =
    omega (arith, le-mul_of_pos_right {m = at j.weights i} x (weight_rule k j v i hi), mul_comm x (at j.weights i), v.small)

pub counts_shown : (k : Knapsack) (j : Job) → Valid k j → CountsShown k j
unfolding MayPick most_picks most_of_one most_budget
counts_shown once j v = record { within = λ i x hi may light. may; allowed = λ i x few. few }
counts_shown limited j v = record { within = λ i x hi may light. may; allowed = λ i x few. few }
counts_shown free j v = record { within = λ i x hi may light. fits_often v i x hi light; allowed = λ i x few. tt }

module _ (j : Job) (cells : List ℕ) where
  -- kind 3: one after the other
  one_by_one : (i : ℕ) → NoneBelow free j cells i 1 → (x : ℕ) → NoneBelow free j cells i x
  unfolding cell_at certificate_cell
  one_by_one i one zero = record {
    no_less = λ c hc light.
        let w = at j.weights i in
        let all : c - w * 0 ≡ c = omega (arith, mul-zero w) in
        omega (arith, ap (at cells) all, mul-zero (at j.values i));
  }
  one_by_one i one (suc x) = record {
    no_less = λ c hc light.
        let w = at j.weights i in
        let v = at j.values i in
        let more : w * suc x ≡ w * x + w = mul-suc w x in
        let left : c - w * 1 - w * x ≡ c - w * suc x = omega (arith, mul-one w) in
        let rest = (one_by_one i one x).no_less (c - w * 1) (omega arith) (omega (arith, mul-one w)) in
        omega (arith, one.no_less c hc (omega (arith, mul-one w)), rest, ap (at cells) left, mul-one v, mul-suc v x);
  }

  -- the rule is kept, so it is for every count that is allowed
  pub each_count : (k : Knapsack) → CountsShown k j → RuleKept k j cells → (i x : ℕ) → i < labels j → MayPick k (at j.copies i) x
      → at j.weights i * x ≤ j.budget → NoneBelow k j cells i x
  unfolding Asks
  each_count once shown r i x hi may light = r.none_below i x hi (shown.within i x hi may light)
  each_count limited shown r i x hi may light = r.none_below i x hi (shown.within i x hi may light)
  each_count free shown r i x hi may light = one_by_one i (r.none_below i 1 hi refl) x

module _ (k : Knapsack) (j : Job) (shown : CountsShown k j) (cells : List ℕ) (r : RuleKept k j cells) where
  -- K(i,c) is no less than the value of any selection of the first i labels that fits c
  covers : (i c : ℕ) → i ≤ labels j → c ≤ j.budget → (q : List ℕ) → Fits k j i c q → total j.values q ≤ cell_at k j cells i c
  covers zero c hi hc q f = le_trans (le_of_eq (ap (total j.values) (empty_of q f.selection.one_each) ∙ total_none j.values)) zero-le
  covers (suc i) c hi hc q f =
      let (p, x, whole, may, heavy, f') = fits_less k j i c q f in
      let worth : total j.values q ≡ total j.values p + at j.values i * x =
      ap (total j.values) whole ∙ total_with j.values p x i f'.selection.one_each in
      let below : total j.values p ≤ cell_at k j cells i (c - at j.weights i * x) =
      covers i (c - at j.weights i * x) (omega arith) (omega arith) p f' in
      omega (arith, (each_count j cells k shown r i x hi may (omega arith)).no_less c hc heavy)

  -- and where K(n,C) is the value of picks that fit, they are best
  pub covered : (p : List ℕ) → Fits k j (labels j) j.budget p → cell_at k j cells (labels j) j.budget ≡ total j.values p
      → Best k j (labels j) j.budget p
  covered p f e =
      record { fits = f; greatest = λ q g. le_trans (covers (labels j) j.budget (le_refl (labels j)) (le_refl j.budget) q g) (le_of_eq e) }

-- ---- exact cells

-- how many labels cell m is for, and which budget: its row and its place there; in kind 3 all labels, and m
unfoldable pub labels_at : Knapsack → Job → ℕ → ℕ
labels_at once j m = m / (j.budget + 1)
labels_at limited j m = m / (j.budget + 1)
labels_at free j m = labels j

unfoldable pub budget_at : Knapsack → Job → ℕ → ℕ
budget_at once j m = m % (j.budget + 1)
budget_at limited j m = m % (j.budget + 1)
budget_at free j m = m

-- how many labels row i is for: i; in kind 3 all of them
unfoldable pub row_labels : Knapsack → Job → ℕ → ℕ
row_labels once j i = i
row_labels limited j i = i
row_labels free j i = labels j

-- each cell is the best value of the labels that it is for, with its budget
pub record Exact (k : Knapsack) (j : Job) (cells : List ℕ) : Type 0 where
  pub is_best : (m : ℕ) → m < certificate_cells k j → BestValue k j (labels_at k j m) (budget_at k j m) (at cells m)

-- those are the job's
pub record CellWithin (k : Knapsack) (j : Job) (m : ℕ) : Type 0 where
  pub few : labels_at k j m ≤ labels j
  pub small : budget_at k j m ≤ j.budget

pub cell_within : (k : Knapsack) (j : Job) (m : ℕ) → m < certificate_cells k j → CellWithin k j m
unfolding certificate_cells labels_at budget_at
cell_within once j m h = let here = row_and_budget j m h in record { few = here.row; small = here.column }
cell_within limited j m h = let here = row_and_budget j m h in record { few = here.row; small = here.column }
cell_within free j m h = record { few = le_refl (labels j); small = omega arith }

-- K(i,c) is one of the cells, for the labels of row i and budget c
record CellFor (k : Knapsack) (j : Job) (i c : ℕ) : Type 0 where
  inside : certificate_cell k j i c < certificate_cells k j
  labels_are : labels_at k j (certificate_cell k j i c) ≡ row_labels k j i
  budget_is : budget_at k j (certificate_cell k j i c) ≡ c

cell_for : (k : Knapsack) (j : Job) (i c : ℕ) → i ≤ labels j → c ≤ j.budget → CellFor k j i c
unfolding certificate_cells certificate_cell row_labels labels_at budget_at
cell_for once j i c hi hc = let here = cell_of j i c hi hc in record { inside = here.inside; labels_are = here.row; budget_is = here.column }
cell_for limited j i c hi hc = let here = cell_of j i c hi hc in record { inside = here.inside; labels_are = here.row; budget_is = here.column }
cell_for free j i c hi hc = record { inside = omega arith; labels_are = refl; budget_is = refl }

exact_at : (k : Knapsack) (j : Job) (cells : List ℕ) → Exact k j cells → (i c : ℕ) → i ≤ labels j → c ≤ j.budget
    → BestValue k j (row_labels k j i) c (cell_at k j cells i c)
unfolding cell_at
exact_at k j cells exact i c hi hc =
    let here = cell_for k j i c hi hc in
    let m = certificate_cell k j i c in
    subst (λ (y : ℕ). BestValue k j (row_labels k j i) y (at cells m)) here.budget_is
    (subst (λ (x : ℕ). BestValue k j x (budget_at k j m) (at cells m)) here.labels_are (exact.is_best m here.inside))

-- the last row is for all labels
all_labels : (k : Knapsack) (j : Job) → row_labels k j (labels j) ≡ labels j
unfolding row_labels
all_labels once j = refl
all_labels limited j = refl
all_labels free j = refl

-- so K(n,C) is the best value
pub exact_corner : (k : Knapsack) (j : Job) (cells : List ℕ) → Exact k j cells
    → BestValue k j (labels j) j.budget (cell_at k j cells (labels j) j.budget)
exact_corner k j cells exact =
    subst (λ (n : ℕ). BestValue k j n j.budget (cell_at k j cells (labels j) j.budget)) (all_labels k j)
    (exact_at k j cells exact (labels j) j.budget (le_refl (labels j)) (le_refl j.budget))

-- the table of a knapsack is exact
full_exact : (k : Knapsack) (j : Job) (cells : List ℕ) → FullTable k j cells → (m : ℕ) → m < cell_count j
    → BestValue k j (m / (j.budget + 1)) (m % (j.budget + 1)) (at cells m)
unfolding FullTable
full_exact k j cells table m h =
    let here = row_and_budget j m h in
    subst (λ (x : ℕ). BestValue k j (m / (j.budget + 1)) (m % (j.budget + 1)) (at cells x)) here.numbered
    (table (m / (j.budget + 1)) (m % (j.budget + 1)) here.row here.column)

pub exact_table : (k : Knapsack) (j : Job) (cells : List ℕ) → ValueTable k j cells → Exact k j cells
unfolding ValueTable OneRow labels_at budget_at certificate_cells
exact_table once j cells table = record { is_best = full_exact once j cells table }
exact_table limited j cells table = record { is_best = full_exact limited j cells table }
exact_table free j cells table = record { is_best = λ m h. table m (omega arith) }

-- a selection for row i in what x of label i leave, and one for row i+1 with these x
pub record OneMore (k : Knapsack) (j : Job) (i c x : ℕ) (p : List ℕ) : Type 0 where
  pub with_them : List ℕ
  pub fits : Fits k j (row_labels k j (suc i)) c with_them
  pub worth : total j.values with_them ≡ total j.values p + at j.values i * x

module _ (j : Job) (i c x : ℕ) (hi : i < labels j) (light : at j.weights i * x ≤ c) (p : List ℕ) where
  -- kinds 1 and 2: the picks with one more
  append_them : (k : Knapsack) → CountsShown k j → x ≤ most_picks k j i → Fits k j i (c - at j.weights i * x) p
      → Fits k j (suc i) c (p ++ (x ∷ []))
  append_them k shown few f = fits_more k j i c p x (shown.allowed i x few) light f

  pub leads_on : (k : Knapsack) → Valid k j → CountsShown k j → Asks k j i x → Fits k j (row_labels k j i) (c - at j.weights i * x) p
      → OneMore k j i c x p
  unfolding Asks row_labels
  leads_on once v shown few f = record {
    with_them = p ++ (x ∷ []);
    fits = append_them once shown few f;
    worth = total_with j.values p x i f.selection.one_each;
  }
  leads_on limited v shown few f = record {
    with_them = p ++ (x ∷ []);
    fits = append_them limited shown few f;
    worth = total_with j.values p x i f.selection.one_each;
  }
  leads_on free v shown one f =
      let w = at j.weights i in
      let weighs : w * x ≡ w = ap (λ (y : ℕ). w * y) one ∙ mul-one w in
      let valued : at j.values i * x ≡ at j.values i = ap (λ (y : ℕ). at j.values i * y) one ∙ mul-one (at j.values i) in
      record {
        with_them = one_more p i;
        fits = free_more j c p i hi (omega arith) (subst (λ (y : ℕ). Fits free j (labels j) (c - y) p) weighs f);
        worth = more_total j.values p i (omega (arith, f.selection.one_each)) ∙ omega arith;
      }

-- exact cells keep the rule
pub exact_keeps : (k : Knapsack) (j : Job) → Valid k j → CountsShown k j → (cells : List ℕ) → Exact k j cells → RuleKept k j cells
exact_keeps k j v shown cells exact = record {
  none_below = λ i x hi asks. record {
    no_less = λ c hc light.
        let here = exact_at k j cells exact (suc i) c hi hc in
        let b = exact_at k j cells exact i (c - at j.weights i * x) (omega arith) (omega arith) in
        let more = leads_on j i c x hi light b.picks k v shown asks b.best.fits in
        omega (arith, here.best.greatest more.with_them more.fits, more.worth, b.value, here.value);
  };
}

-- ---- rule 14 in the documents' words

module _ (j : Job) (cells : List ℕ) where
  -- kind 1: K(i,c) is below K(i-1,c); or label i-1's weight w is at most c and K(i,c) is below K(i-1,c-w) plus its value
  pub rule_14 : (i c : ℕ)
      → low_in_row once j cells (suc i) c
      ≡ (ltb (cell_at once j cells (suc i) c) (cell_at once j cells i c)
      || (leb (at j.weights i) c && ltb (cell_at once j cells (suc i) c) (cell_at once j cells i (c - at j.weights i) + at j.values i)))
  unfolding low_in_row most_picks some_of below_with
  rule_14 i c = simp (mul-zero, mul-one, leb-zero, sub-zero, add-zero)

  -- kind 3: label i's weight w is at most c and cell c is below cell c-w plus its value
  pub rule_14_free : (i c : ℕ)
      → below_with free j cells i c 1 ≡ (leb (at j.weights i) c && ltb (at cells c) (at cells (c - at j.weights i) + at j.values i))
  unfolding below_with cell_at certificate_cell
  rule_14_free i c = simp mul-one

-- counts that weigh more than the budget aren't asked about, so copies past it change nothing
pub copies_past : (k : Knapsack) (j : Job) (cells : List ℕ) (i c most : ℕ) → 1 ≤ at j.weights i → c ≤ most
    → some_of (below_with k j cells i c) (suc most) ≡ some_of (below_with k j cells i c) (suc c)
copies_past k j cells i c most weighs past =
    some_fewer (below_with k j cells i c) (suc most) (suc c) (omega arith)
    (λ x above below. below_not k j cells i c x
    (λ light. absurd (omega (arith, le-mul_of_pos_right {m = at j.weights i} x weighs, mul_comm x (at j.weights i)))))

-- cell 0 of kind 3 is never too low: every label weighs more than 0
pub cell_0_kept : (j : Job) → Valid free j → (cells : List ℕ) → too_low free j cells 0 ≡ false
unfolding too_low low_for_one
cell_0_kept j v cells =
    none_pass (λ i. below_with free j cells i 0 1) (labels j)
    (λ i hi. below_not free j cells i 0 1 (λ light. absurd (omega (arith, weight_rule free j v i hi, mul-one (at j.weights i)))))
