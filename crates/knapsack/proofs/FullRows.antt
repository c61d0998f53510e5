-- Kinds 1 and 2: the table as it is filled holds the best values, and the trace back through it finds the picks.
-- Assumes nothing.
use mathlib.Core.Path.{◌≡◌, sym, ◌∙◌}
use Prim.Native.Nat.{ℕ, zero, suc, ◌+◌, ◌*◌, ◌≤◌, ◌<◌}
use native.Mathlib.Nat.{suc-mul, mul-le-mul_right}
use native.Mathlib.Omega.{arith}
use mathlib.Core.List.{List, ◌++◌}
use lib.ListN.{length}
use Rattle.meaning.specs.Lists.{at, total}
use Rattle.meaning.specs.Job.{Job, Knapsack, labels}
use Rattle.meaning.specs.Orders.{last_least}
use Rattle.meaning.specs.Bounds.{most_value}
use Rattle.meaning.specs.Knapsacks.{MayPick, BestValue, BestPicks, order_of}
use Rattle.rows.specs.Rows.{SomeCount, GreatestRow, NextRow, Capped}
use Rattle.rows.proofs.Stores.{by}
use Rattle.rows.proofs.Counts.{greatest_same, greatest_may, greatest_capped}
use Rattle.rows.specs.Bounded.{Bounded}
use Rattle.knapsack.specs.Tables.{row_of, Filled}
use Rattle.rows.specs.Traces.{TraceBack}
use Rattle.rows.proofs.AnyRows.{one_row_more, rows_best, count_back, picks_back, weight_back}

-- ---- the table as it is filled

module _ (ws vs : List ℕ) (limit : ℕ → ℕ) (width : ℕ) where
  -- rows before row i end before it
  rows_below : (m i c : ℕ) → m < i → c < width → m * width + c < i * width
  rows_below m i c h l = omega (arith, mul-le-mul_right width h, suc-mul m width)

  -- one row more
  pub filled_more : (i : ℕ) (t u : List ℕ) → Filled ws vs limit width i t → NextRow t u (i * width) width (at ws i) (at vs i) (limit i)
      → Filled ws vs limit width (i + 1) u
  unfolding GreatestRow
  filled_more i t u d r =
      let kept : (m c : ℕ) → m ≤ i → c < width → row_of t width m c ≡ row_of u width m c = λ m c h l.
      sym (r.before (m * width + c) (omega (arith, rows_below m (i + 1) c (omega arith) l, one_row_more i width))) in
      record {
        first = λ c h. sym (kept 0 c (omega arith) h) ∙ d.first c h;
        next = λ m h c l.
            greatest_same (λ x. x ≤ limit m) (row_of t width m) (row_of u width m) (at ws m) (at vs m) c (row_of u width (suc m) c)
            (λ b k. kept m b (omega arith) (omega arith))
            (by m i
            (λ k. rw (← kept (suc m) c k l) (d.next m k c l))
            (λ k.
            let here : m ≡ i = omega arith in
            rw (here, suc-mul i width) (r.made c l)));
      }

  -- its rows are capped
  pub filled_capped : Bounded width ws vs → (n : ℕ) (t : List ℕ) → n ≤ length ws → Filled ws vs limit width n t
      → (i : ℕ) → i ≤ n → Capped (row_of t width i) width
  unfolding Capped most_value
  filled_capped b n t few d zero h c l = omega (arith, d.first c l)
  filled_capped b n t few d (suc i) h c l =
      greatest_capped (λ x. x ≤ limit i) (row_of t width i) (row_of t width (suc i)) (at ws i) (at vs i) width
      (b.heavy i (omega arith)) (b.cheap i (omega arith)) (filled_capped b n t few d i (omega arith)) (d.next i h) c l

-- ---- what it holds

-- where the limits are those of a knapsack
module _ (k : Knapsack) (j : Job) (limit : ℕ → ℕ) (width : ℕ) (cells : List ℕ)
    (few : (i x : ℕ) → i < labels j → MayPick k (at j.copies i) x → x ≤ limit i)
    (may : (i x : ℕ) → i < labels j → x ≤ limit i → MayPick k (at j.copies i) x)
    (d : Filled j.weights j.values limit width (labels j) cells) where
  abbrev row : ℕ → ℕ → ℕ
  row i c = row_of cells width i c

  -- each row is the greatest over the row before it, by the counts that may be picked
  row_greatest : (i : ℕ) → i < labels j
      → GreatestRow (MayPick k (at j.copies i)) (row i) (at j.weights i) (at j.values i) width (row (suc i))
  unfolding GreatestRow
  row_greatest i h c l =
      greatest_may (λ x. x ≤ limit i) (MayPick k (at j.copies i)) (row i) (at j.weights i) (at j.values i) c (row (suc i) c)
      (λ x. may i x h) (λ x light. few i x h) (d.next i h c l)

  -- each cell is the best value of its labels and its budget
  pub row_best : (i c : ℕ) → i ≤ labels j → c < width → BestValue k j i c (row i c)
  row_best = rows_best k j width row d.first row_greatest

  -- some count leads back from each cell
  pub some_back : (i c : ℕ) → i < labels j → c < width → SomeCount (row i) (at j.weights i) (at j.values i) c (row (suc i) c)
  some_back = count_back k j width row d.first row_greatest

  -- the trace back finds the chosen picks
  pub back_picks : order_of k ≡ last_least → (budget : ℕ) → budget < width → {i c : ℕ} {found : List ℕ}
      → TraceBack row j.weights j.values (labels j) budget i c found → (p : List ℕ) → BestPicks k j i c p
      → BestPicks k j (labels j) budget (p ++ found)
  back_picks least budget wide = picks_back k j width row d.first row_greatest least budget wide

  -- what they weigh, and what is left of the budget
  pub back_weight : {budget i c : ℕ} {found : List ℕ} → TraceBack row j.weights j.values (labels j) budget i c found
      → (p : List ℕ) → length p ≡ i → total j.weights (p ++ found) + c ≡ total j.weights p + budget
  back_weight = weight_back row j
