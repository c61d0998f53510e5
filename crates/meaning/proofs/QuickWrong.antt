-- Wrong quick answers that the promise rules out: lists that aren't the greedy or the single one, and calls that name or hand back the wrong list, or
-- write nothing (QuickPromise has what every answer is held to); and that the bound of half can't be raised to 51 in a hundred.
-- Assumes nothing.
use mathlib.Core.Path.{◌≡◌, ap, ap₂, refl}
use Prim.Native.Nat.{ℕ, ◌*◌, ◌<◌, ◌≤◌}
use native.Mathlib.Decide.{ℕ_discrete}
use native.Mathlib.Omega.{arith}
use mathlib.Core.Bool.{Bool, ◌&&◌, not}
use mathlib.Core.List.{List, [], ◌∷◌}
use lib.Dec.{lit≤}
use lib.ListN.{length, take}
use borrow.Author.Tests.{le-leb}
use Rattle.meaning.specs.Hands.{Quick}
use Rattle.meaning.specs.Hands.{First, Refused, Second}
use Rattle.meaning.specs.Lists.{at, if, total}
use Rattle.meaning.specs.Slices.{Holds, over}
use Rattle.meaning.specs.Job.{Job, labels, once}
use Rattle.meaning.specs.Knapsacks.{BestPicks, BestValue}
use Rattle.meaning.specs.Answers.{quick_numbers}
use Rattle.meaning.specs.Quick.{Filled, Greedy, Highest, Picked, PickedAs, Single}
use Rattle.meaning.specs.Quick.{no_label, one_label, quick_job, quick_refusal, the_first, the_second}
use Rattle.meaning.proofs.QuickPromise.{OneFilling, both, filling, first_written, handed_back, no_second_filling}
use Rattle.meaning.proofs.QuickPromise.{no_second_pick, pick_fits, refused_filling, second_worth, second_written, worth_a_label}
use Rattle.meaning.proofs.SmallQuick.{greedy_out, greedy_test, single_test, single_out}
use Rattle.meaning.proofs.Opens.{opens}
use Rattle.meaning.proofs.Cases.{case_a}
use Rattle.meaning.proofs.CornersQuick.{Quickly, case_a_quickly, half_best, half_quickly, near_half, nines, single_wins}

-- ---- greedy lists

-- one that stops at the first label that doesn't fit: label 2 still does
stops_early : ¬ Greedy (quick_job 5 (3 ∷ 4 ∷ 1 ∷ []) (9 ∷ 8 ∷ 1 ∷ [])) (1 ∷ 0 ∷ 0 ∷ [])
unfolding opens
stops_early g = let kept : ◌≡◌ {A = ℕ} 0 1 = g.each 2 (lit≤ tt) in omega arith

-- one by ratios cut to whole numbers: label 1 is worth more for its weight
cut_ratio : ¬ Greedy (quick_job 4 (3 ∷ 2 ∷ []) (10 ∷ 7 ∷ [])) (1 ∷ 0 ∷ [])
unfolding opens
cut_ratio g = let kept : ◌≡◌ {A = ℕ} 0 1 = g.each 1 (lit≤ tt) in omega arith

-- one that takes the higher number of equal ratios
higher_number : ¬ Greedy (quick_job 6 (4 ∷ 6 ∷ []) (2 ∷ 3 ∷ [])) (0 ∷ 1 ∷ [])
unfolding opens
higher_number g = let kept : ◌≡◌ {A = ℕ} 0 1 = g.each 0 (lit≤ tt) in omega arith

-- one by value alone
by_value : ¬ Greedy (quick_job 10 (10 ∷ 1 ∷ 8 ∷ []) (10 ∷ 2 ∷ 9 ∷ [])) (1 ∷ 0 ∷ 0 ∷ [])
unfolding opens
by_value g = let kept : ◌≡◌ {A = ℕ} 0 1 = g.each 1 (lit≤ tt) in omega arith

-- one that keeps a label worth 0
worthless_kept : ¬ Greedy (quick_job 3 (1 ∷ 2 ∷ []) (0 ∷ 3 ∷ [])) (1 ∷ 1 ∷ [])
unfolding opens
worthless_kept g = let left_out : ◌≡◌ {A = ℕ} 1 0 = g.each 0 (lit≤ tt) in omega arith

-- ---- single lists

-- the label that a single list keeps is the highest
kept_highest : (j : Job) (s : List ℕ) → Single j s → (k : ℕ) → k < labels j → at s k ≡ 1 → Highest j k
kept_highest j s (one_label m high only) k h kept =
    elim (ℕ_discrete k m) [ yes here ↦ rw here high | no other ↦ absurd (omega (arith, only.no_other k h other)) ]
kept_highest j s (no_label worthless none) k h kept = absurd (omega (arith, none.none_kept k h))

-- one of the highest value, without asking whether it fits
too_heavy : ¬ Single (quick_job 5 (6 ∷ 5 ∷ []) (9 ∷ 4 ∷ [])) (1 ∷ 0 ∷ [])
unfolding opens
too_heavy s = let fits : ◌≤◌ 6 5 = (kept_highest _ _ s 0 (lit≤ tt) refl).fits in omega arith

-- the later of two labels of the highest value
later_of_equals : ¬ Single (quick_job 2 (2 ∷ 1 ∷ []) (3 ∷ 3 ∷ [])) (0 ∷ 1 ∷ [])
unfolding opens
later_of_equals s = let less : 3 < 3 = (kept_highest _ _ s 1 (lit≤ tt) refl).first 0 (lit≤ tt) (lit≤ tt) in omega arith

-- a label worth 0
worthless_alone : ¬ Single (quick_job 3 (1 ∷ 2 ∷ []) (0 ∷ 0 ∷ [])) (1 ∷ 0 ∷ [])
unfolding opens
worthless_alone s = let worth : 0 < 0 = (kept_highest _ _ s 0 (lit≤ tt) refl).worth in omega arith

-- ---- calls that aren't refused

module _ (j : Job) (first second : List ℕ) (ok : quick_refusal j (length first) (length second) ≡ 0) where
  -- the second list named on a tie
  second_on_a_tie : (v : ℕ) (f s : List ℕ) → v ≡ total j.values (take (labels j) f) → ¬ Filled j first second (Second v) f s
  second_on_a_tie v f s tie filled = omega (arith, (second_worth j first second ok (Second v) f s filled v refl).1)

  -- worth 0, as lists of zeros are, where a label fits that isn't
  worth_nothing : (k : ℕ) → k < labels j → at j.weights k ≤ j.budget → 0 < at j.values k
      → (a : Quick) (f s : List ℕ) → (quick_numbers a).value ≡ 0 → ¬ Filled j first second a f s
  worth_nothing k h fits worth a f s none filled = omega (arith, worth_a_label j first second ok a f s filled k h fits)

  -- the first list left as it was, or the second, where something else than a pick stood there
  leaves_first : (i : ℕ) → i < labels j → 1 < at first i → (a : Quick) (s : List ℕ) → ¬ Filled j first second a first s
  leaves_first i h no-pick a s filled = omega (arith, first_written j first second ok a first s filled i h)

  leaves_second : (i : ℕ) → i < labels j → 1 < at second i → (a : Quick) (f : List ℕ) → ¬ Filled j first second a f second
  leaves_second i h no-pick a f filled = omega (arith, second_written j first second ok a f second filled i h)

-- a label of 1 worth 2, and one of 10 worth 10, which is more than the greedy list
abbrev heavier : Job
heavier = quick_job 10 (1 ∷ 10 ∷ []) (2 ∷ 10 ∷ [])

-- the greedy list named
greedy_for_less : (v : ℕ) (f s : List ℕ) → ¬ Filled heavier (nines heavier) (nines heavier) (First v) f s
unfolding opens
greedy_for_less v f s filled =
    let right = (no_second_filling _ _ _ _ _ _ _ _ _ filled single_wins.call).answer in
    let which : ◌≡◌ {A = ℕ} 1 2 = ap (λ (a : Quick). (quick_numbers a).which) right in
    omega arith

-- the single list in the first one, and the greedy list in the second
lists_exchanged : (a : Quick)
    → ¬ Filled case_a (nines case_a) (nines case_a) a (over (0 ∷ 0 ∷ 1 ∷ []) (nines case_a)) (over (1 ∷ 1 ∷ 0 ∷ []) (nines case_a))
unfolding opens
lists_exchanged a filled =
    let right = (no_second_filling _ _ _ _ _ _ _ _ _ filled case_a_quickly.call).in_first in
    let first : ◌≡◌ {A = ℕ} 0 1 = ap (λ (l : List ℕ). at l 0) right in
    omega arith

-- ---- what is handed back where the call isn't refused

module _ (j : Job) (m n : ℕ) (first second place : ℕ × ℕ) (p : List ℕ) (ok : quick_refusal j m n ≡ 0) where
  -- a copy that stands elsewhere
  a_copy : ¬ (place ≡ first) → ¬ (place ≡ second) → ¬ Picked j m n first second place p
  a_copy not_first not-second picked = elim (handed_back j m n first second ok place p picked) [
    | the_first s here greedy single more ↦ not_first here
    | the_second g here single greedy more ↦ not-second here
  ]

  -- a part of another length than n, such as an empty one
  another_length : ¬ (length p ≡ labels j) → ¬ Picked j m n first second place p
  another_length other picked = other (pick_fits j m n first second ok place p picked).selection.one_each

-- the list that is worth less
lesser_handed_back : (first second : ℕ × ℕ) → ¬ (first ≡ second) → (p : List ℕ) → ¬ Picked heavier 2 2 first second first p
unfolding opens PickedAs greedy_test single_test
lesser_handed_back first second apart p picked =
    let right : Picked heavier 2 2 first second second (0 ∷ 1 ∷ []) =
    record { kept = the_second (1 ∷ 0 ∷ []) refl (single_out heavier 1 (0 ∷ 1 ∷ []) tt) (greedy_out heavier (1 ∷ 0 ∷ []) tt) (lit≤ tt) } in
    apart (no_second_pick heavier 2 2 first second first second p (0 ∷ 1 ∷ []) picked right).where_it_is

-- ---- calls that are refused: another answer, and one that writes

refused_alone : (j : Job) (first second : List ℕ) (r : ℕ) → ¬ (r ≡ 0) → r ≡ quick_refusal j (length first) (length second)
    → (a : Quick) (f s : List ℕ) → Filled j first second a f s → OneFilling a (Refused r) f first s second
refused_alone j first second r Some-number e a f s filled =
    no_second_filling j first second a (Refused r) f first s second filled (refused_filling j first second r Some-number e)

-- ---- the bound of half

-- what a call says with lists of 9s it says with all that are long enough
with_any_lists : (j : Job) (a : Quick) (greedy single : List ℕ) → Quickly j a greedy single → (first second : List ℕ)
    → quick_refusal j (length first) (length second) ≡ 0 → (a' : Quick) (f s : List ℕ) → Filled j first second a' f s → a' ≡ a
unfolding Holds
with_any_lists j a greedy single q first second ok a' f s filled =
    let x = both j (nines j) (nines j) q.unrefused a (over greedy (nines j)) (over single (nines j)) q.call in
    (no_second_filling j first second a' a f (over x.greedy first) s (over x.single second) filled
    (filling j first second ok (record {
      greedy = x.greedy;
      single = x.single;
      is_greedy = x.is_greedy;
      is_single = x.is_single;
      first_holds = refl;
      second_holds = refl;
      numbers = x.numbers;
    }))
    ).answer

room_for_three : (m n : ℕ) → 3 ≤ m → 3 ≤ n → quick_refusal near_half m n ≡ 0
unfolding opens
room_for_three m n h l = ap₂ (λ (one other : Bool). if (not (one && other)) 6 0) (le-leb 3 m h) (le-leb 3 n l)

-- it can't be 51 in a hundred: on this job every call names less than that of the best value
tight : (first second : List ℕ) → 3 ≤ length first → 3 ≤ length second → (a : Quick) (f s : List ℕ) → Filled near_half first second a f s
    → (best : ℕ) → BestValue once near_half 3 1_000 best → 100 * (quick_numbers a).value < 51 * best
unfolding opens BestPicks
tight first second h l a f s filled best b =
    let says : a ≡ First 502 = with_any_lists near_half (First 502) _ _ half_quickly first second (room_for_three _ _ h l) a f s filled in
    let value : (quick_numbers a).value ≡ 502 = ap (λ (x : Quick). (quick_numbers x).value) says in
    let more : 1_000 ≤ total near_half.values b.picks = b.best.greatest (0 ∷ 1 ∷ 1 ∷ []) half_best.one_of.fits in
    omega (arith, b.value)
