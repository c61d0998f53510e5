-- From the bits to what `meaning` promises.
-- Assumes nothing.
use mathlib.Core.Path.{◌≡◌, refl, subst}
use mathlib.Core.Logic.{inl, inr}
use Prim.Native.Nat.{ℕ, suc, ◌+◌, ◌-◌, ◌*◌, ◌/◌, ◌^◌, ◌≤◌, ◌<◌, max}
use native.Mathlib.Omega.{arith}
use mathlib.Core.Bool.{Bool}
use mathlib.Core.List.{List, [], ◌++◌}
use lib.Dec.{T, eqb}
use lib.ListN.{length, drop}
use mir.Facts.{eqb_yes}
use Rattle.meaning.specs.Says.{Answer}
use Rattle.meaning.specs.Says as Says
use Rattle.meaning.specs.Lists.{at, if, up_to, tally}
use Rattle.meaning.specs.Job.{Job, labels, subset_sums}
use Rattle.meaning.specs.Lent.{lent_of, room_by, room_of}
use Rattle.meaning.specs.Bounds.{most_budget}
use Rattle.meaning.specs.Refusals.{rules_of, weight_rules}
use Rattle.meaning.specs.Sums.{Reached, ReachedWithin, Tells, is_so, is_not, bit, BitTable, YesOrNo, TotalCount}
use Rattle.meaning.specs.Solved.{Unrefused, Gives, TableBy}
use Rattle.meaning.specs.SolvedIn.{SolvedInWords}
use Rattle.meaning.proofs.Counting.{counted_iff}
use Rattle.meaning.proofs.SolvedIn.{kept, holds_front, solved_in_words}
use Rattle.meaning.proofs.Ranks.{up_to_distinct}
use Rattle.meaning.proofs.Reaching.{reached_with, reached_without, reached_either, total_0, no_labels}
use Rattle.meaning.proofs.Tally.{tally_counts}
use Rattle.meaning.proofs.UpTo.{up_to_in, up_to_out}
use Rattle.rows.proofs.Stores.{by}
use Rattle.rows.proofs.Rounds.{each_round}
use Rattle.sums.specs.Words.{is_set, Marked, Trimmed, Tabled}
use Rattle.sums.proofs.Words.{total_0_set, other_unset}

-- ---- the words as they are filled tell the totals that the labels so far reach

module _ (j : Job) (i t : ℕ) where
  abbrev w : ℕ
  w = at j.weights i

  -- with a label that weighs too much
  tells_without : {y : ℕ} → t < w → Tells (Reached j i t) y → Tells (Reached j (suc i) t) y
  tells_without h (is_so r e) = is_so (reached_without j i t r) e
  tells_without h (is_not none e) = is_not (λ r. elim (reached_either j i t r) [ inl old ↦ none old | inr new ↦ absurd (omega (arith, new.0)) ]) e

  -- with a label that may be used or not
  tells_with : {x y : ℕ} → w ≤ t → Tells (Reached j i t) x → Tells (Reached j i (t - w)) y → Tells (Reached j (suc i) t) (max x y)
  tells_with h (is_so r e) (is_so _ e') = is_so (reached_without j i t r) (omega arith)
  tells_with h (is_so r e) (is_not _ e') = is_so (reached_without j i t r) (omega arith)
  tells_with h (is_not none e) (is_so r e') = is_so (subst (Reached j (suc i)) (omega arith) (reached_with j i (t - w) r)) (omega arith)
  tells_with h (is_not none e) (is_not none' e') =
      is_not (λ r. elim (reached_either j i t r) [ inl old ↦ none old | inr new ↦ none' new.1 ]) (omega arith)

-- each bit tells whether its total is reached
pub marked_tells : (j : Job) (len : ℕ) (words : List ℕ) → Marked j.weights len (labels j) words
    → (t : ℕ) → t < 64 * len → Tells (Reached j (labels j) t) (bit words t)
marked_tells j len words =
    each_round _ _ (λ i s. (t : ℕ) → t < 64 * len → Tells (Reached j i t) (bit s t)) (labels j)
    (λ s d t h. by 0 t
    (λ b. is_not (λ r. absurd (omega (arith, no_labels j t r))) (other_unset s len t d b h))
    (λ b. let first : t ≡ 0 = omega arith in rw first (is_so (total_0 j 0) (total_0_set s len d))))
    (λ i s next inside before more t h.
    let w = at j.weights i in
    by t w
    (λ b. rw (more.short t (omega arith) h b) (tells_without j i t b (before t h)))
    (λ b. rw (more.long t (omega arith) h b) (tells_with j i t b (before t h) (before (t - w) (omega arith)))))
    (labels j) words (omega arith)

-- ---- without the totals above the budget they are the table

-- a total within the budget
tells_within : (j : Job) (n t : ℕ) {y : ℕ} → t ≤ j.budget → Tells (Reached j n t) y → Tells (ReachedWithin j n t) y
tells_within j n t h (is_so r e) = is_so (record { reached = r; within = h }) e
tells_within j n t h (is_not none e) = is_not (λ r. none r.reached) e

-- the words of all labels, trimmed
pub bit_table : (j : Job) (len : ℕ) (s words : List ℕ) → len ≡ j.budget / 64 + 1 → Marked j.weights len (labels j) s
    → Trimmed s words j.budget len → ((m : ℕ) → at words m < 2 ^ 64) → BitTable j words
bit_table j len s words e d cut narrow = record {
  set = λ t h. by j.budget t
      (λ b. is_not (λ r. absurd (omega (arith, r.within))) (cut.above t b (omega arith)))
      (λ b. rw (cut.within t b) (tells_within j (labels j) t b (marked_tells j len s d t (omega arith))));
  narrow = λ m h. narrow m;
}

-- ---- the answer is read off the table

-- a bit that tells of something is set exactly if it is so
tells_true : {P : Type 0} {y : ℕ} → Tells P y → T (eqb y 1) → P
tells_true (is_so p e) s = p
tells_true {y = y} (is_not none e) s = absurd (let one : y ≡ 1 = eqb_yes s in omega arith)

true_tells : {P : Type 0} {y : ℕ} → Tells P y → P → T (eqb y 1)
true_tells (is_so _ e) p = rw e tt
true_tells (is_not none e) p = absurd (none p)

-- the budget itself is within the budget
tells_at : (j : Job) (n : ℕ) {y : ℕ} → Tells (ReachedWithin j n j.budget) y → Tells (Reached j n j.budget) (if (eqb y 1) 1 0)
unfolding if
tells_at j n (is_so r e) = is_so r.reached (rw e)
tells_at j n (is_not none e) = is_not (λ r. none (record { reached = r; within = omega arith })) (rw e)

-- what was read off the table: whether the budget's bit is set, and how many bits are
module _ (j : Job) (words : List ℕ) (len : ℕ) (long : len ≡ j.budget / 64 + 1) (d : BitTable j words) where
  -- each total is one of the bits that are set, and the other way round
  total_count : TotalCount j (tally (is_set words) (up_to (64 * len)))
  unfolding TotalCount is_set
  total_count =
      counted_iff (tally_counts (is_set words) (up_to (64 * len)) (up_to_distinct (64 * len)))
      (λ t m. tells_true (d.set t (omega (arith, up_to_out (64 * len) t m.0))) m.1)
      (λ t r. let h : t < 64 * (j.budget / 64 + 1) = omega (arith, r.within) in (up_to_in (64 * len) t (omega arith), true_tells (d.set t h) r))

  -- the answer
  pub tabled : (told : Bool) (totals : ℕ) → told ≡ is_set words j.budget → totals ≡ tally (is_set words) (up_to (64 * len))
      → Tabled j (Says.Sums told totals) words
  unfolding YesOrNo is_set
  tabled told totals e₁ e₂ = record {
    gives = record {
      yes = told;
      totals = totals;
      tells = rw e₁ (tells_at j (labels j) (d.set j.budget (omega arith)));
      how_many = rw e₂ total_count;
      numbers = refl;
      none_written = refl;
    };
    table = d;
  }

-- ---- the door

-- what a job that is not refused keeps
pub small : (j : Job) (words : List ℕ) → Unrefused subset_sums j (lent_of [] words []) → j.budget ≤ most_budget
unfolding rules_of weight_rules
small j words ok = (kept subset_sums j (lent_of [] words []) ok).small

pub roomy : (j : Job) (words : List ℕ) → Unrefused subset_sums j (lent_of [] words []) → j.budget / 64 + 1 ≤ length words
unfolding room_by room_of lent_of
roomy j words ok = (kept subset_sums j (lent_of [] words []) ok).words_room

-- the needed words hold the table, and the others what they held
pub solved : (j : Job) (a : Answer) (words table : List ℕ) → Unrefused subset_sums j (lent_of [] words [])
    → length table ≡ j.budget / 64 + 1 → Tabled j a table → SolvedInWords j words a (table ++ drop (j.budget / 64 + 1) words)
unfolding Gives TableBy room_by room_of lent_of
solved j a words table ok long d =
    solved_in_words subset_sums j a words (table ++ drop (j.budget / 64 + 1) words) table ok refl refl d.gives d.table long
    (holds_front table words (j.budget / 64 + 1) long)
