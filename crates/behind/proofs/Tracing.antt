-- From a row whose cells show how many of the first labels reach each total to the picks that are read off it.
-- Assumes nothing.
use mathlib.Core.Path.{◌≡◌, sym, ap, ◌∙◌, subst}
use Prim.Native.Nat.{ℕ, zero, suc, ◌+◌, ◌-◌, ◌≤◌, ◌<◌}
use native.Mathlib.Omega.{arith}
use mathlib.Core.List.{List, [], ◌∷◌, ◌++◌, append_assoc, append-nil}
use lib.ListN.{length, length-set, drop, replicate}
use lib.Seq.{drop-cons, drop-length}
use Rattle.meaning.specs.Lists.{at}
use Rattle.meaning.specs.Cells.{LeastShown, no_way}
use Rattle.meaning.specs.Job.{Job, labels}
use Rattle.meaning.specs.Sums.{Reached}
use Rattle.meaning.specs.Behind.{ReachedBy, Behind}
use Rattle.meaning.proofs.Shown.{shown_least, shown_some}
use Rattle.meaning.proofs.Behind.{ReachesFirst, reaches_first, behind_none, behind_with, behind_zeros}
use Rattle.rows.proofs.Stores.{at_other, stored_first}
use Rattle.behind.specs.Firsts.{Traceable, TraceOff, start, taken}

-- the places from i on, where the next `more` of them are all 0
zero_part : (l : List ℕ) (i more : ℕ) → i + more ≤ length l → ((m : ℕ) → i ≤ m → m < i + more → at l m ≡ 0)
    → drop i l ≡ replicate more 0 ++ drop (i + more) l
zero_part l i zero h zeros = let none : i + 0 ≡ i = omega arith in rw none
zero_part l i (suc more) h zeros =
    let next : suc i + more ≡ i + suc more = omega arith in
    let rest : drop (suc i) l ≡ replicate more 0 ++ drop (suc i + more) l =
    zero_part l (suc i) more (omega arith) (λ m a b. zeros m (omega arith) (omega arith)) in
    drop-cons l i 0 (omega arith) ∙ rw (zeros i (omega arith) (omega arith), ← next) (ap (λ (r : List ℕ). 0 ∷ r) rest)

module _ (j : Job) (row : ℕ → ℕ) (top : ℕ) (few : labels j < no_way)
    (rows : (t : ℕ) → t ≤ top → LeastShown (ReachedBy j (labels j) t) (row t)) where
  -- a total that the first m labels reach shows no more of them
  shows_least : (t m : ℕ) → t ≤ top → m ≤ labels j → Reached j m t → row t ≤ m
  shows_least t m within inside r = shown_least (rows t within) m (record { among = inside; reached = r })

  -- one above 0 that isn't marked is first reached by the last of those that it shows
  first_label : (t : ℕ) → 0 < t → t ≤ top → ¬ (row t ≡ no_way) → (0 < row t) × ReachesFirst j (labels j) t (row t - 1)
  first_label t pos within unmarked =
      reaches_first j (labels j) t (row t) pos (shown_some (rows t within) unmarked) (shown_least (rows t within))

  -- what it leaves shows an earlier one
  left_earlier : (t : ℕ) → t ≤ top → (0 < row t) × ReachesFirst j (labels j) t (row t - 1) → row (t - at j.weights (row t - 1)) < row t
  left_earlier t within (pos, first) =
      omega (arith, shows_least (t - at j.weights (row t - 1)) (row t - 1) (omega arith) (omega (arith, first.inside)) first.rest)

  -- so the picks can be read off
  pub traceable : (width : ℕ) → width ≡ top + 1 → ¬ (row top ≡ no_way) → Traceable row j.weights width
  unfolding labels
  traceable width e unmarked = record {
    wide = omega arith;
    unmarked = let last : width - 1 ≡ top = omega arith in rw last unmarked;
    few = few;
    labelled = λ t pos h other.
        let within : t ≤ top = omega arith in
        let (some_label, first) = first_label t pos within other in
        record {
          some_label = some_label;
          one_of = (shown_some (rows t within) other).among;
          light = first.light;
          earlier = left_earlier t within (some_label, first);
        };
  }

  -- ---- what is read off are the picks

  -- what is known where total t is left: the labels from `settled` on are settled, those before it reach t, and their picks for t, followed by
  -- what was settled, are those for the whole total
  record Come (t : ℕ) (picks : List ℕ) : Type 0 where
    settled : ℕ
    inside : settled ≤ labels j
    within : t ≤ top
    reached : row t ≤ settled
    long : length picks ≡ labels j
    zeros : (m : ℕ) → m < settled → at picks m ≡ 0
    on : (q : List ℕ) → Behind j settled t q → Behind j (labels j) top (q ++ drop settled picks)

  module _ (unmarked : ¬ (row top ≡ no_way)) where
    come : {t : ℕ} {picks : List ℕ} → TraceOff row j.weights top t picks → Come t picks
    unfolding labels
    come (start {picks} long zeros) = record {
      settled = labels j;
      inside = omega arith;
      within = omega arith;
      reached = (shown_some (rows top (omega arith)) unmarked).among;
      long = long;
      zeros = zeros;
      on = λ q b. rw (← long, drop-length picks, append-nil q) (rw (← long) at b);
    }
    come (taken {t} {picks} trace pos) =
        let d = come trace in
        let m = row t - 1 in
        let w = at j.weights m in
        let (some_label, first) = first_label t pos d.within (λ marked. omega (arith, d.reached, d.inside)) in
        let left = left_earlier t d.within (some_label, first) in
        let here : m < length picks = omega (arith, first.inside, d.long) in
        let rest = d.settled - suc m in
        let past : suc m + rest ≡ d.settled = omega (arith, d.reached) in
        record {
          settled = m;
          inside = omega (arith, first.inside);
          within = omega (arith, d.within);
          reached = omega arith;
          long = simp length-set d.long;
          zeros = λ k h. at_other picks m 1 k (omega arith) ∙ d.zeros k (omega (arith, d.reached));
          on = λ q b.
              let with_it = behind_zeros j (suc m) t (q ++ (1 ∷ [])) rest (behind_with j m t q first.light first.not_before b) in
              let settled : Behind j (labels j) top (((q ++ (1 ∷ [])) ++ replicate rest 0) ++ drop d.settled picks) =
              d.on ((q ++ (1 ∷ [])) ++ replicate rest 0) (rw past at with_it) in
              let zeros-past : drop (suc m) picks ≡ replicate rest 0 ++ drop d.settled picks =
              zero_part picks (suc m) rest (omega (arith, d.inside, d.long)) (λ k a h. d.zeros k (omega arith)) ∙ rw past in
              let past-m = replicate rest 0 ++ drop d.settled picks in
              rw (stored_first picks m 1 here, zeros-past)
              (rw (append_assoc (q ++ (1 ∷ [])) (replicate rest 0) (drop d.settled picks), append_assoc q (1 ∷ []) past-m) at settled);
        }

    -- where nothing is left, the labels before are not needed
    pub trace_behind : (picks : List ℕ) → TraceOff row j.weights top 0 picks → Behind j (labels j) top picks
    trace_behind picks trace =
        let d = come trace in
        let all : 0 + d.settled ≡ d.settled = omega arith in
        let none : Behind j d.settled 0 (replicate d.settled 0) = rw all at (behind_zeros j 0 0 [] d.settled (behind_none j)) in
        let zeros : picks ≡ replicate d.settled 0 ++ drop d.settled picks =
        zero_part picks 0 d.settled (omega (arith, d.inside, d.long)) (λ m a h. d.zeros m (omega arith)) ∙ rw all in
        subst (Behind j (labels j) top) (sym zeros) (d.on (replicate d.settled 0) none)
