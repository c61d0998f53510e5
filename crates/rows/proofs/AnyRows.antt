-- Rows of values, each made of the one before it by a label, wherever they stand: they hold the best values, and the trace back through them finds
-- the picks. A table has all of them; where one row is passed again and again they are gone, and can be spoken of still.
-- Assumes nothing.
use mathlib.Core.Path.{◌≡◌, refl, ◌∙◌, subst}
use Prim.Native.Nat.{ℕ, zero, suc, ◌+◌, ◌-◌, ◌*◌, ◌≤◌, ◌<◌}
use native.Mathlib.Nat.{suc-mul}
use native.Mathlib.Numerals.{add-one}
use native.Mathlib.Omega.{arith}
use mathlib.Core.List.{List, [], ◌∷◌, ◌++◌, append-nil}
use lib.ListN.{length, drop, set, length-append}
use lib.Seq.{append_snoc}
use Rattle.meaning.specs.Lists.{at, total}
use Rattle.meaning.specs.Job.{Job, Knapsack, once, limited, free, labels}
use Rattle.meaning.specs.Orders.{last_least}
use Rattle.meaning.specs.Knapsacks.{MayPick, BestValue, BestPicks, order_of}
use Rattle.meaning.proofs.Totals.{total_with}
use Rattle.meaning.proofs.OneOfEach.{best_value_unique}
use Rattle.meaning.proofs.Steps.{best_none}
use Rattle.meaning.proofs.Trace.{trace_step, picks_worth}
use Rattle.rows.specs.Rows.{Worth, SomeCount, GreatestRow, Least}
use Rattle.rows.proofs.Stores.{by, stored_first}
use Rattle.rows.proofs.Counts.{greatest_best}
use Rattle.rows.specs.Traces.{TraceBack, begin, back}

-- one row more is one width more
pub one_row_more : (i width : ℕ) → (i + 1) * width ≡ i * width + width
one_row_more i width = rw (add-one, suc-mul i width)

-- ---- the trace back as it goes

-- one label more
pub trace_more : (row : ℕ → ℕ → ℕ) (ws vs : List ℕ) (n budget i c x : ℕ) (picks : List ℕ) → 0 < i → i ≤ length picks
    → TraceBack row ws vs n budget i c (drop i picks) → Least (row (i - 1)) (at ws (i - 1)) (at vs (i - 1)) c (row (suc (i - 1)) c) x
    → TraceBack row ws vs n budget (i - 1) (c - at ws (i - 1) * x) (drop (i - 1) (set picks (i - 1) x))
trace_more row ws vs n budget i c x picks pos inside trace l =
    let here : i ≡ suc (i - 1) = omega arith in
    let before = subst (λ (m : ℕ). TraceBack row ws vs n budget m c (drop m picks)) here trace in
    rw (stored_first picks (i - 1) x (omega arith)) (back {rest = c - at ws (i - 1) * x} before l (omega (arith, l.made.spent)))

-- it has come to a row of the table, and no more is left than there was
pub trace_within : {row : ℕ → ℕ → ℕ} {ws vs : List ℕ} {n budget i c : ℕ} {found : List ℕ} → TraceBack row ws vs n budget i c found
    → (i ≤ n) × (c ≤ budget)
trace_within begin = (omega arith, omega arith)
trace_within (back trace l e) = let (a, b) = trace_within trace in (omega arith, omega arith)

-- ---- what they hold

-- fewer than may be picked may be picked too
fewer_may : (k : Knapsack) (copies more x : ℕ) → x ≤ more → MayPick k copies more → MayPick k copies x
unfolding MayPick
fewer_may once copies more x h m = omega arith
fewer_may limited copies more x h m = omega arith
fewer_may free copies more x h m = tt

-- the row of no labels is 0, and each other is the greatest over the row before it, by the counts that may be picked
module _ (k : Knapsack) (j : Job) (width : ℕ) (row : ℕ → ℕ → ℕ) (first : (c : ℕ) → c < width → row 0 c ≡ 0)
    (greatest : (i : ℕ) → i < labels j
    → GreatestRow (MayPick k (at j.copies i)) (row i) (at j.weights i) (at j.values i) width (row (suc i))) where
  -- each cell is the best value of its labels and its budget
  pub rows_best : (i c : ℕ) → i ≤ labels j → c < width → BestValue k j i c (row i c)
  rows_best zero c h l = rw (first c l) (best_none k j c)
  rows_best (suc i) c h l = greatest_best k j i width (row i) (row (suc i)) (λ b m. rows_best i b (omega arith) m) (greatest i h) c l

  -- some count leads back from each cell
  pub count_back : (i c : ℕ) → i < labels j → c < width → SomeCount (row i) (at j.weights i) (at j.values i) c (row (suc i) c)
  unfolding GreatestRow
  count_back i c h l = let t = greatest i h c l in record { count = t.count; made = t.made }

  -- ---- the trace back

  module _ (least : order_of k ≡ last_least) (budget : ℕ) (wide : budget < width) where
    abbrev Trace : ℕ → ℕ → List ℕ → Type 0
    Trace = TraceBack row j.weights j.values (labels j) budget

    -- one label: the least count that its row leaves is the chosen one
    one_label : (i c x rest : ℕ) (p : List ℕ) → i < labels j → c ≤ budget
        → Least (row i) (at j.weights i) (at j.values i) c (row (suc i) c) x → rest + at j.weights i * x ≡ c
        → BestPicks k j i rest p → BestPicks k j (suc i) c (p ++ (x ∷ []))
    unfolding GreatestRow BestPicks
    one_label i c x rest p h hc l e best =
        let w = at j.weights i in
        let v = at j.values i in
        let t = greatest i h c (omega arith) in
        let here : c - w * x ≡ rest = omega arith in
        let left : l.made.left ≡ rest = omega (arith, l.made.spent) in
        let no_more : x ≤ t.count = by t.count x (λ u. absurd (l.fewer t.count u t.made)) (λ u. u) in
        let worth : row i rest ≡ total j.values p = picks_worth k j i rest p best (rows_best i rest (omega arith) (omega arith)) in
        trace_step k least j i c (row (suc i) c) x p (rows_best (suc i) c h (omega arith))
        (fewer_may k (at j.copies i) t.count x no_more t.may) (omega arith) (rw here best)
        (l.made.worth ∙ rw (left, ← worth))
        (λ y u may-y light r br.
        let is : r ≡ row i (c - w * y) = best_value_unique br (rows_best i (c - w * y) (omega arith) (omega arith)) in
        let made : Worth (row i) w v c y (row i (c - w * y) + v * y) = record { left = c - w * y; spent = omega arith; worth = refl } in
        by (r + v * y) (row (suc i) c) (λ lt. lt)
        (λ ge.
        let same : row i (c - w * y) + v * y ≡ row (suc i) c = omega (arith, t.above y (row i (c - w * y) + v * y) may-y made) in
        absurd (l.fewer y u (rw same at made))))
        (λ y light. (row i (c - w * y), rows_best i (c - w * y) (omega arith) (omega arith)))

    -- the chosen picks of the labels to come, and after them those found, are the chosen picks of all
    pub picks_back : {i c : ℕ} {found : List ℕ} → Trace i c found → (p : List ℕ) → BestPicks k j i c p → BestPicks k j (labels j) budget (p ++ found)
    picks_back begin p best = rw append-nil best
    picks_back (back {i} {c} {x} {rest} {found} trace l e) p best =
        let (h, hc) = trace_within trace in
        rw (← append_snoc p x found) (picks_back trace (p ++ (x ∷ [])) (one_label i c x rest p h hc l e best))

-- what they weigh, and what is left of the budget
pub weight_back : (row : ℕ → ℕ → ℕ) (j : Job) {budget i c : ℕ} {found : List ℕ} → TraceBack row j.weights j.values (labels j) budget i c found
    → (p : List ℕ) → length p ≡ i → total j.weights (p ++ found) + c ≡ total j.weights p + budget
weight_back row j begin p long = rw append-nil
weight_back row j (back {i} {c} {x} {rest} {found} trace l e) p long =
    rw (← append_snoc p x found)
    (omega (arith, weight_back row j trace (p ++ (x ∷ [])) (length-append p (x ∷ []) ∙ omega arith), total_with j.weights p x i long))
