-- Kind 3: the row as it is filled holds the best values, and the trace along the labels finds the picks.
-- Assumes nothing.
use mathlib.Core.Path.{◌≡◌, sym, ◌∙◌}
use Prim.Native.Nat.{ℕ, ◌+◌, ◌-◌, ◌≤◌, ◌<◌}
use native.Mathlib.Nat.{le_trans, le_of_eq}
use native.Mathlib.Omega.{arith}
use mathlib.Core.Bool.{true, false}
use mathlib.Core.List.{List}
use lib.ListN.{length}
use Rattle.meaning.specs.Lists.{at, total}
use Rattle.meaning.specs.Job.{Job, labels, free}
use Rattle.meaning.specs.Bounds.{most_value}
use Rattle.meaning.specs.Orders.{first_most}
use Rattle.meaning.specs.Knapsacks.{MayPick, Fits, Best, BestValue, BestPicks, order_of}
use Rattle.meaning.proofs.Totals.{one_more, one_fewer, more_total, fewer_total}
use Rattle.meaning.proofs.Steps.{best_none, none_better}
use Rattle.meaning.proofs.Free.{free_more, free_fewer}
use Rattle.meaning.proofs.Greedy.{first_is}
use Rattle.rows.specs.Rows.{AnyCount, Capped, leads_on}
use Rattle.rows.proofs.Stores.{by}
use Rattle.rows.proofs.LeadsOn.{leads_true, leads_false}
use Rattle.rows.proofs.Counts.{greatest_capped, greatest_best}
use Rattle.rows.proofs.Rounds.{each_round}
use Rattle.rows.specs.Traces.{Trace, start}
use Rattle.rows.proofs.Traces.{trace_few, trace_spent, trace_chosen}
use Rattle.rows.specs.Bounded.{Bounded}
use Rattle.knapsack.specs.Tables.{Climbed}
use Rattle.knapsack.specs.Traces.{leads_along, TraceAlong}

-- ---- the row as it is filled

-- its cells are the best values of the labels so far
pub climbed_best : (j : Job) (width : ℕ) (row : List ℕ) → Climbed j.weights j.values width (labels j) row
    → (c : ℕ) → c < width → BestValue free j (labels j) c (at row c)
unfolding MayPick
climbed_best j width row =
    each_round _ _ (λ i s. (c : ℕ) → c < width → BestValue free j i c (at s c)) (labels j)
    (λ s none c h. rw (none c h) (best_none free j c))
    (λ i s t inside best up. greatest_best free j i width (at s) (at t) best up)
    (labels j) row (omega arith)

-- and capped
pub climbed_capped : (ws vs : List ℕ) (width i : ℕ) (row : List ℕ) → Bounded width ws vs → i ≤ length ws
    → Climbed ws vs width i row → Capped (at row) width
unfolding Capped most_value
climbed_capped ws vs width i row b =
    each_round _ _ (λ k s. Capped (at s) width) (length ws)
    (λ s none c l. omega (arith, none c l))
    (λ k s t inside capped up. greatest_capped AnyCount (at s) (at t) (at ws k) (at vs k) width (b.heavy k inside) (b.cheap k inside) capped up)
    i row

-- ---- the trace along

-- a label that leads on is no heavier than the budget
pub along_light : (row : ℕ → ℕ) (ws vs : List ℕ) (m c : ℕ) → leads_along row ws vs m c ≡ true → at ws m ≤ c
along_light row ws vs m c on = (leads_true row (at ws m) (at vs m) c on).0

-- the trace with the counts of k labels settled
abbrev pub AlongTo : (ℕ → ℕ) → List ℕ → List ℕ → ℕ → ℕ → ℕ → List ℕ → Type 0
AlongTo row ws vs budget k c picks = Trace first_most (leads_along row ws vs) ws (length ws) budget k c picks

-- it begins with counts of 0
pub along_begins : (row : ℕ → ℕ) (ws vs : List ℕ) (budget : ℕ) (picks : List ℕ) → length picks ≡ length ws
    → ((m : ℕ) → m < length ws → at picks m ≡ 0) → AlongTo row ws vs budget 0 budget picks
along_begins row ws vs budget picks long zeros = start {picks = picks} long zeros

-- no count passes the budget
pub along_few : (row : ℕ → ℕ) (ws vs : List ℕ) (budget k c : ℕ) (picks : List ℕ) → AlongTo row ws vs budget k c picks
    → (m : ℕ) → 1 ≤ at ws m → at picks m + c ≤ budget
along_few row ws vs budget k c picks trace =
    trace_few first_is (leads_along row ws vs) ws (length ws) budget (along_light row ws vs) trace

-- the picks weigh what is not left
pub along_weight : (row : ℕ → ℕ) (ws vs : List ℕ) (budget c : ℕ) (found : List ℕ) → TraceAlong row ws vs budget c found → total ws found + c ≡ budget
unfolding TraceAlong
along_weight row ws vs budget c found trace = trace_spent first_is (leads_along row ws vs) ws (length ws) budget (along_light row ws vs) trace

-- `row` holds the best values up to the budget
module _ (j : Job) (row : ℕ → ℕ) (budget : ℕ) (rows : (c : ℕ) → c ≤ budget → BestValue free j (labels j) c (row c)) where
  abbrev BestAt : ℕ → List ℕ → Type 0
  BestAt c q = Best free j (labels j) c q

  long : (c : ℕ) (q : List ℕ) → BestAt c q → length q ≡ labels j
  long c q b = b.fits.selection.one_each

  -- a list that fits is best exactly where it is worth what the row says
  worth_row : (c : ℕ) → c ≤ budget → (q : List ℕ) → BestAt c q → total j.values q ≡ row c
  worth_row c h q b =
      let r = rows c h in
      omega (arith, b.greatest r.picks r.best.fits, none_better r q b.fits, r.value)

  row_worth : (c : ℕ) → c ≤ budget → (q : List ℕ) → Fits free j (labels j) c q → total j.values q ≡ row c → BestAt c q
  row_worth c h q f e = record { fits = f; greatest = λ p g. le_trans (none_better (rows c h) p g) (le_of_eq (sym e)) }

  module _ (i c : ℕ) (inside : i < labels j) (within : c ≤ budget) where
    abbrev w : ℕ
    w = at j.weights i

    abbrev v : ℕ
    v = at j.values i

    -- one of label i leads on: the best lists are, as far as they use it, those for what is left with one more of it
    module _ (lead : leads_on row w v c ≡ true) where
      light : w ≤ c
      light = (leads_true row w v c lead).0

      more_best : (q : List ℕ) → BestAt (c - w) q → BestAt c (one_more q i)
      more_best q b =
          row_worth c within (one_more q i) (free_more j c q i inside light b.fits)
          (more_total j.values q i (omega (arith, long (c - w) q b))
          ∙ omega (arith, worth_row (c - w) (omega (arith, light)) q b, (leads_true row w v c lead).1))

      fewer_best : (q : List ℕ) → BestAt c q → 0 < at q i → BestAt (c - w) (one_fewer q i)
      fewer_best q b Some-of =
          row_worth (c - w) (omega (arith, light)) (one_fewer q i) (free_fewer j c q i inside Some-of b.fits).1
          (omega (arith, fewer_total j.values q i (omega (arith, long c q b)) Some-of, worth_row c within q b, (leads_true row w v c lead).1))

      left_best : (q : List ℕ) × BestAt (c - w) q
      left_best = let r = rows (c - w) (omega (arith, light)) in (r.picks, r.best)

    -- where it doesn't, no best list uses label i
    unused : leads_on row w v c ≡ false → (q : List ℕ) → BestAt c q → at q i ≡ 0
    unused off q b =
        by 0 (at q i)
        (λ Some-of.
        let (fits, fewer) = free_fewer j c q i inside Some-of b.fits in
        let r = rows (c - w) (omega arith) in
        absurd (leads_false row w v c off fits (omega (
          arith,
          worth_row c within q b,
          fewer_total j.values q i (omega (arith, long c q b)) Some-of,
          none_better r (one_fewer q i) fewer,
          none_better (rows c within) (one_more r.picks i) (free_more j c r.picks i inside fits r.best.fits),
          more_total j.values r.picks i (omega (arith, r.best.fits.selection.one_each)),
          r.value,
        ))))
        (λ none_of. omega arith)

  -- so the counts found are the chosen picks
  pub along_picks : (left : ℕ) (found : List ℕ) → TraceAlong row j.weights j.values budget left found → BestPicks free j (labels j) budget found
  unfolding TraceAlong BestPicks order_of labels
  along_picks left found trace =
      let r = rows budget (omega arith) in
      trace_chosen first_is (leads_along row j.weights j.values) j.weights (labels j) budget (along_light row j.weights j.values)
      BestAt long left_best more_best fewer_best unused left found (r.picks, r.best) trace
