-- The trace back through a filled table: where it begins, how its loop goes, and the picks that it finds.
-- Assumes nothing.
use mathlib.Core.Path.{◌≡◌, sym, ap, ap₂, ◌∙◌, subst}
use Prim.Native.Nat.{ℕ, zero, suc, ◌+◌, ◌-◌, ◌*◌, ◌≤◌, ◌<◌, zero-le}
use native.Mathlib.Nat.{le_refl, mul-one, mul-zero}
use native.Mathlib.Decide.{ℕ_discrete}
use native.Mathlib.Omega.{arith}
use mathlib.Core.List.{List, [], ◌∷◌, ◌++◌, append-nil}
use lib.Dec.{leb}
use lib.ListN.{length, drop, set}
use lib.Seq.{append_snoc}
use Rattle.meaning.specs.Lists.{at, if}
use Rattle.meaning.specs.Cells.{LeastShown, no_way}
use Rattle.meaning.specs.Job.{Job, labels}
use Rattle.meaning.specs.Bounds.{most_budget}
use Rattle.meaning.specs.Stated.{CutWeight}
use Rattle.meaning.proofs.Shown.{shown_by, shown_some}
use Rattle.meaning.proofs.CutCells.{none_of_none}
use Rattle.rows.proofs.Parts.{end_of, end_long, end_at}
use Rattle.rows.proofs.Stores.{stored_first}
use Rattle.stated.specs.LeastWeights.{row_of, cell_of, Roomy, Filled}
use Rattle.stated.specs.ReadOff.{Highest, apart, TraceBack, begin, back, TracedBack}
use Rattle.stated.proofs.Filling.{apart_same, apart_other, apart_few, first_within, last_row, total_0_reached, pick_within, row_here, row_back}
use Rattle.stated.proofs.Lightest.{ChosenFor, chosen_none, chosen_without, chosen_with, PickedAt, picked_at}

-- ---- from the highest total

-- the last row as it is lent, the end of the table
abbrev pub last_of : List ℕ → ℕ → List ℕ
last_of cells width = end_of cells (length cells - width)

module _ {c : ℕ} {weights cuts : List ℕ} {width : ℕ} (cells : List ℕ) (roomy : Roomy c weights cuts width (length cells)) where
  wide : length cells - width + width ≡ length cells
  wide = omega (arith, first_within c weights width roomy)

  pub last_is : length cells - width ≡ row_of c weights (length weights) * width
  last_is = omega (arith, wide, last_row c weights width roomy)

  last_at : (t : ℕ) → t < width → at (last_of cells width) t ≡ cell_of c weights width cells (length weights) t
  last_at t h = end_at cells (length cells - width) width wide t h ∙ ap (λ (from : ℕ). at cells (from + t)) last_is

  -- total 0 is reached
  pub last_some : Filled c weights cuts width (length weights) cells → (0 < length (last_of cells width)) × ¬ (at (last_of cells width) 0 ≡ no_way)
  unfolding no_way
  last_some filled =
      let none = total_0_reached c weights cuts width cells filled roomy.wide (length weights) (le_refl (length weights)) in
      (omega (arith, end_long cells (length cells - width) width wide, roomy.wide), λ marked. omega (arith, marked, last_at 0 roomy.wide, none))

  -- its highest total is that of all labels
  pub last_highest : {top : ℕ} → Highest (at (last_of cells width)) (length (last_of cells width)) top
      → Highest (cell_of c weights width cells (length weights)) width top
  last_highest {top} h =
      let long = end_long cells (length cells - width) width wide in
      let inside : top < width = omega (arith, h.inside, long) in
      record {
        inside = inside;
        reached = λ marked. h.reached (last_at top inside ∙ marked);
        above = λ t more l. sym (last_at t l) ∙ h.above t more (omega (arith, long));
      }

-- ---- as the loop goes

-- one label more
trace_more : (cell : ℕ → ℕ → ℕ) (cuts : List ℕ) (n top i t a x : ℕ) (picks : List ℕ) → 0 < i → i ≤ length picks
    → TraceBack cell cuts n top i t (drop i picks) → a ≡ at cuts (i - 1) → x ≡ apart (cell (i - 1) t) (cell (suc (i - 1)) t)
    → TraceBack cell cuts n top (i - 1) (t - a * x) (drop (i - 1) (set picks (i - 1) x))
trace_more cell cuts n top i t a x picks pos inside trace ea ex =
    let here : i ≡ suc (i - 1) = omega arith in
    let before = subst (λ (m : ℕ). TraceBack cell cuts n top m t (drop m picks)) here trace in
    rw (stored_first picks (i - 1) x (omega arith), ea, ex) (back before)

module _ {c : ℕ} {weights cuts : List ℕ} {width : ℕ} {cells : List ℕ} (filled : Filled c weights cuts width (length weights) cells) where
  -- what a turn leaves: the trace was at the first n labels, and has gone back over label n - 1
  pub record Turned (top n t before a x : ℕ) (picks : List ℕ) : Type 0 where
    pub before_is : before ≡ row_of c weights (n - 1) * width
    pub within : a * x ≤ t
    pub trace : TraceBack (cell_of c weights width cells) cuts (length weights) top (n - 1) (t - a * x) (drop (n - 1) (set picks (n - 1) x))

  pub turned : {top n row t w a before x : ℕ} {picks : List ℕ} → 0 < n → n ≤ length weights → n ≤ length picks → t < width
      → row ≡ row_of c weights n * width → TraceBack (cell_of c weights width cells) cuts (length weights) top n t (drop n picks)
      → w ≡ at weights (n - 1) → a ≡ at cuts (n - 1) → before + if (leb w c) width 0 ≡ row → x ≡ apart (at cells (before + t)) (at cells (row + t))
      → Turned top n t before a x picks
  turned {top} {n} {row} {t} {w} {a} {before} {x} {picks} pos few room low here trace ew ea back_is ex =
      let from : before ≡ row_of c weights (n - 1) * width = row_back c weights width n row w pos few ew here before back_is in
      let cell = cell_of c weights width cells in
      let pick : x ≡ apart (cell (n - 1) t) (cell (suc (n - 1)) t) =
      ex ∙ ap₂ (λ (f r : ℕ). apart (at cells (f + t)) (at cells (r + t))) from (row_here c weights width n row w pos few ew here) in
      record {
        before_is = from;
        within = rw (ea, pick) (pick_within c weights cuts width cells filled (n - 1) t (omega arith) low);
        trace = trace_more cell cuts (length weights) top n t a x picks pos room trace ea pick;
      }

-- each label is picked once at most
pub trace_ones : {cell : ℕ → ℕ → ℕ} {cuts : List ℕ} {n top i t : ℕ} {found : List ℕ} → TraceBack cell cuts n top i t found
    → (k : ℕ) → at found k ≤ 1
trace_ones begin k = zero-le
trace_ones (back trace) zero = apart_few _ _
trace_ones (back trace) (suc k) = trace_ones trace k

trace_within : {cell : ℕ → ℕ → ℕ} {cuts : List ℕ} {n top i t : ℕ} {found : List ℕ} → TraceBack cell cuts n top i t found → (i ≤ n) × (t ≤ top)
trace_within begin = (omega arith, omega arith)
trace_within (back trace) = let (a, b) = trace_within trace in (omega arith, omega arith)

-- ---- what it finds

module _ (j : Job) (cuts : List ℕ) (width : ℕ) (cell : ℕ → ℕ → ℕ) (small : j.budget ≤ most_budget)
    (shows : (i t : ℕ) → i ≤ labels j → t < width → LeastShown (CutWeight j cuts i t) (cell i t))
    (top : ℕ) (inside : top < width) (reached : ¬ (cell (labels j) top ≡ no_way)) where
  -- total t of the first i labels is reached, and whatever is chosen for it is chosen for `top` with what was found after it
  record Come (i t : ℕ) (found : List ℕ) : Type 0 where
    way : CutWeight j cuts i t (cell i t)
    on : (p : List ℕ) → ChosenFor j cuts i t p → ChosenFor j cuts (labels j) top (p ++ found)

  -- what is reached isn't marked
  unmarked : (i t x : ℕ) → CutWeight j cuts i t x → ¬ (x ≡ no_way)
  unfolding no_way most_budget
  unmarked i t x h e = omega (arith, h.heavy, h.fits.weight)

  come : {i t : ℕ} {found : List ℕ} → TraceBack cell cuts (labels j) top i t found → Come i t found
  come begin = record { way = shown_some (shows (labels j) top (omega arith) inside) reached; on = λ p chosen. rw (append-nil p) chosen }
  come (back {i} {t} {found} trace) =
      let (i-few, t-low) = trace_within trace in
      let d = come trace in
      let before = shows i t (omega arith) (omega arith) in
      let here = shows (suc i) t i-few (omega arith) in
      elim (ℕ_discrete (cell i t) (cell (suc i) t)) [
        | yes e ↦
            let none = apart_same (cell i t) (cell (suc i) t) e in
            let stays : t - at cuts i * 0 ≡ t = omega (arith, mul-zero (at cuts i)) in
            rw (none, stays) (record {
              way = shown_some before (λ marked. unmarked (suc i) t (cell (suc i) t) d.way (sym e ∙ marked));
              on = λ p chosen.
                  rw (← append_snoc p 0 found) (d.on (p ++ (0 ∷ [])) (chosen_without j cuts i t (cell i t) p before (rw (← e) at here) chosen));
            })
        | no e ↦
            let one = apart_other (cell i t) (cell (suc i) t) e in
            let less : t - at cuts i * 1 ≡ t - at cuts i = ap (λ (x : ℕ). t - x) (mul-one (at cuts i)) in
            let k : PickedAt j cuts i t (cell (suc i) t) = picked_at j cuts i t (cell i t) (cell (suc i) t) before here e in
            rw (one, less) (record {
              way = shown_by (shows i (t - at cuts i) (omega arith) (omega arith)) k.rest k.rest_way;
              on = λ p chosen.
                  rw (← append_snoc p 1 found)
                  (d.on (p ++ (1 ∷ [])) (chosen_with j cuts i t (cell i t) (cell (suc i) t) p before here e chosen));
            })
      ]

  -- through with all labels, it has found the chosen picks
  pub traced_picks : (found : List ℕ) → TracedBack cell cuts (labels j) top found → ChosenFor j cuts (labels j) top found
  traced_picks found traced =
      let d = come traced.trace in
      let none : traced.left ≡ 0 = (none_of_none j cuts traced.left (cell 0 traced.left) d.way).0 in
      d.on [] (rw none (chosen_none j cuts))
