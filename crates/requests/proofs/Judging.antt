-- The tests of a job, one after the other: what each comes to, and the lowest number that applies.
-- Assumes nothing.
use mathlib.Core.Path.{◌≡◌, refl, sym, ap, ◌∙◌}
use Prim.Native.Nat.{ℕ, zero, suc, ◌+◌, ◌≤◌, ◌<◌}
use native.Mathlib.Numerals.{add-one}
use native.Mathlib.Nat.{zero-add}
use native.Mathlib.Omega.{arith}
use mathlib.Core.Bool.{Bool, true, false, not, ◌&&◌}
use mathlib.Core.List.{List, [], ◌∷◌, ◌++◌}
use lib.Dec.{T, leb, ltb, eqb, leb-zero}
use lib.ListN.{length, drop, drop_of_length-le, take}
use lib.Seq.{drop-cons}
use borrow.Author.Tests.{le-leb, lt-leb, lt-ltb}
use Rattle.meaning.specs.Lists.{at, if, sum, every}
use Rattle.meaning.specs.Job.{Job, Knapsack, job_of, labels}
use Rattle.meaning.specs.Bytes.{numbers_in}
use Rattle.meaning.specs.Refusals as meaning
use Rattle.meaning.specs.Bounds.{most_value, most_copies, least_copies, least_q, most_q}
use Rattle.meaning.specs.Refusals.{ascending_from, bounds_fit, each_within, job_refusal, knapsack_rules, least_value, lists_fit, positive, numbers_fit, q_fits}
use Rattle.meaning.proofs.Loops.{and_assoc, and_true, every_joined, every_step}
use Rattle.numbers.specs.declared.Job.{Job as Came}
use Rattle.numbers.specs.Lists.{job_as}
use Rattle.numbers.specs.TwoSlices.{list_from}
use Rattle.rules.specs.declared.Rules.{Rules}
use Rattle.rules.specs.Ruling.{rules_from, rule_from}
use Rattle.requests.specs.Judging.{EachWithin}

-- ---- the numbers of a list

-- the sum is positive exactly where the numbers are not all 0
pub not_all_0 : (xs : List ℕ) → not (each_within 0 0 xs) ≡ ltb 0 (sum xs)
unfolding each_within every sum
not_all_0 [] = refl
not_all_0 (zero ∷ xs) = simp zero-add (not_all_0 xs)
not_all_0 (suc x ∷ xs) = simp (leb-zero (suc x), lt-leb (suc x) 0 (omega arith), lt-ltb 0 (suc x + sum xs) (omega arith))

module _ (low high : ℕ) where
  -- no number is outside
  pub none_tested : EachWithin low high [] true
  unfolding each_within every
  none_tested = record { within = refl; up_from = λ e. refl }

  -- one number more, by the code's test of it
  pub one_tested : (xs : List ℕ) (i : ℕ) (r : Bool) → i < length xs → at xs i ≤ 4_294_967_295 → EachWithin low high (take i xs) r
      → EachWithin low high (take (i + 1) xs) ((r && leb low (at xs i)) && leb (at xs i) high)
  unfolding each_within
  one_tested xs i r h fits so_far = record {
    within = rw (every_step (λ x. leb low x && leb x high) xs i h, ← so_far.within) (sym (and_assoc r (leb low (at xs i)) (leb (at xs i) high)));
    up_from = λ e. rw (every_step (leb low) xs i h, ← so_far.up_from e, le-leb (at xs i) high (omega arith)) (and_true (r && leb low (at xs i)));
  }

  -- two lists, one after the other
  pub joined : (xs ys : List ℕ) (r s : Bool) → EachWithin low high xs r → EachWithin low high ys s → EachWithin low high (xs ++ ys) (r && s)
  unfolding each_within
  joined xs ys r s a b = record {
    within = rw (a.within, b.within) (sym (every_joined (λ x. leb low x && leb x high) xs ys));
    up_from = λ e. rw (a.up_from e, b.up_from e) (sym (every_joined (leb low) xs ys));
  }

  -- a list that is handed over as numbers and bytes, by the tests of both
  pub both_tested : (numbers bytes : List ℕ) (r s : Bool) → EachWithin low high numbers r → EachWithin low high (numbers_in bytes) s
      → EachWithin low high (list_from numbers bytes) (r && s)
  unfolding list_from
  both_tested numbers bytes r s a b = joined numbers (numbers_in bytes) r s a b

-- the test by bounds that are these
pub within_as : {low high least most : ℕ} {xs : List ℕ} {r : Bool} → low ≡ least → high ≡ most → EachWithin low high xs r
    → r ≡ each_within least most xs
within_as e f h = rw (← e, ← f) h.within

-- ascending: one number passed, the rest to come
pub ascends : (xs : List ℕ) (low i : ℕ) → i < length xs → low ≤ at xs i
    → ascending_from low (drop i xs) ≡ ascending_from (at xs i + 1) (drop (i + 1) xs)
unfolding ascending_from
ascends xs low i h up = simp (add-one, drop-cons xs i 0 h, le-leb low (at xs i) up)

-- and one that is too small settles it
pub descends : (xs : List ℕ) (low i : ℕ) → i < length xs → at xs i < low → ascending_from low (drop i xs) ≡ false
unfolding ascending_from
descends xs low i h down = ap (ascending_from low) (drop-cons xs i 0 h) ∙ rw (lt-leb low (at xs i) down)

pub all_ascend : (xs : List ℕ) (low i : ℕ) → length xs ≤ i → ascending_from low (drop i xs) ≡ true
unfolding ascending_from
all_ascend xs low i h = ap (ascending_from low) (drop_of_length-le xs h)

-- ---- 3 and 4, by lengths

-- the two tests, as the code makes them of a job by the lengths of its lists
module _ (rules : Rules) (needs_sum : Bool) (kind : ℕ) (j : Came) (n : ℕ) (counted : n ≡ length j.weights) where
  pub lists_told : {values copies : ℕ} {r : Bool} → r ≡ (eqb values (if rules.valued n 0) && eqb copies (if rules.copied n 0))
      → values ≡ length j.values → copies ≡ length j.copies → r ≡ lists_fit (rules_from rules needs_sum) (job_as kind j)
  unfolding lists_fit rules_from job_of labels
  lists_told told e f = rw (told, counted, e, f)

  pub bounds_told : {r : Bool} → r ≡ (leb n rules.labels && leb j.budget rules.budget) → r ≡ bounds_fit (rules_from rules needs_sum) (job_as kind j)
  unfolding bounds_fit rules_from job_of labels
  bounds_told told = rw (told, counted)

-- ---- 5, list by list

module _ (rules : Rules) (needs_sum : Bool) (j : Job) where
  pub weights_wrong : rule_from rules.weights j.weights ≡ false → false ≡ numbers_fit (rules_from rules needs_sum) j
  unfolding numbers_fit rules_from
  weights_wrong wrong = simp wrong

  module _ (weights_right : rule_from rules.weights j.weights ≡ true) where
    pub values_wrong : each_within rules.floor most_value j.values ≡ false → false ≡ numbers_fit (rules_from rules needs_sum) j
    unfolding numbers_fit rules_from
    values_wrong wrong = simp (weights_right, wrong)

    pub rest_copies : each_within rules.floor most_value j.values ≡ true
        → each_within least_copies most_copies j.copies ≡ numbers_fit (rules_from rules needs_sum) j
    unfolding numbers_fit q_fits rules_from
    rest_copies values-right = simp (weights_right, values-right) (sym (and_true (each_within least_copies most_copies j.copies)))

-- ---- the lowest number that applies

module _ (r : meaning.Rules) (j : Job) (later : ℕ) where
  pub refused_3 : lists_fit r j ≡ false → 3 ≡ job_refusal r j later
  unfolding job_refusal if
  refused_3 a = simp a

  module _ (a : lists_fit r j ≡ true) where
    pub refused_4 : bounds_fit r j ≡ false → 4 ≡ job_refusal r j later
    unfolding job_refusal if
    refused_4 b = simp (a, b)

    module _ (b : bounds_fit r j ≡ true) where
      pub refused_5 : numbers_fit r j ≡ false → 5 ≡ job_refusal r j later
      unfolding job_refusal if
      refused_5 c = simp (a, b, c)

      pub not_yet : numbers_fit r j ≡ true → later ≡ job_refusal r j later
      unfolding job_refusal if
      not_yet c = simp (a, b, c)

-- ---- q, the last that 5 asks

-- what is asked by rules without a q doesn't look at it
pub q_unasked : (r : Rules) (needs_sum : Bool) (kind c q : ℕ) (ws vs cs : List ℕ)
    → job_refusal (rules_from r needs_sum) (job_of kind (c ∷ []) ws vs cs) 0 ≡ job_refusal (rules_from r needs_sum) (job_of kind (c ∷ q ∷ []) ws vs cs) 0
unfolding job_refusal lists_fit bounds_fit numbers_fit q_fits rules_from job_of labels
q_unasked r needs_sum kind c q ws vs cs = refl

-- a knapsack with a q is asked as one without, and then about q
either_5 : (numbers fits : Bool) (later : ℕ) → if (not (numbers && fits)) 5 later ≡ if (not (numbers && true)) 5 (if fits later 5)
unfolding if
either_5 true true later = refl
either_5 true false later = refl
either_5 false fits later = refl

pub q_last : (k : Knapsack) (j : Job) (later : ℕ)
    → job_refusal (knapsack_rules k true) j later ≡ job_refusal (knapsack_rules k false) j (if (leb least_q j.q && leb j.q most_q) later 5)
unfolding job_refusal lists_fit bounds_fit numbers_fit q_fits knapsack_rules
q_last k j later =
    let lists : Bool =
    positive j.weights && each_within (least_value k) most_value j.values && each_within least_copies most_copies j.copies in
    ap (λ (x : ℕ). if (not (lists_fit (knapsack_rules k false) j)) 3 (if (not (bounds_fit (knapsack_rules k false) j)) 4 x))
    (either_5 lists (leb least_q j.q && leb j.q most_q) later)

-- ---- what comes later

-- 3 to 5, by their tests, or else what comes later
abbrev first_of : Bool → Bool → Bool → ℕ → ℕ
first_of lists bounds numbers later = if (not lists) 3 (if (not bounds) 4 (if (not numbers) 5 later))

-- it isn't asked where one of them applies
one_given : (lists bounds numbers : Bool) (later : ℕ) → ¬ (first_of lists bounds numbers 0 ≡ 0)
    → first_of lists bounds numbers later ≡ first_of lists bounds numbers 0
unfolding if
one_given false bounds numbers later h = refl
one_given true false numbers later h = refl
one_given true true false later h = refl
one_given true true true later h = absurd (h refl)

pub earlier_given : (r : meaning.Rules) (j : Job) (later : ℕ) → ¬ (job_refusal r j 0 ≡ 0) → job_refusal r j later ≡ job_refusal r j 0
unfolding job_refusal
earlier_given r j later h = one_given (lists_fit r j) (bounds_fit r j) (numbers_fit r j) later h

-- and is where none does
none_given : (lists bounds numbers : Bool) (later : ℕ) → first_of lists bounds numbers 0 ≡ 0 → first_of lists bounds numbers later ≡ later
unfolding if
none_given false bounds numbers later h = absurd (omega arith)
none_given true false numbers later h = absurd (omega arith)
none_given true true false later h = absurd (omega arith)
none_given true true true later h = refl

pub none_earlier : (r : meaning.Rules) (j : Job) (later : ℕ) → job_refusal r j 0 ≡ 0 → job_refusal r j later ≡ later
unfolding job_refusal
none_earlier r j later h = none_given (lists_fit r j) (bounds_fit r j) (numbers_fit r j) later h

-- and may be any number where a bound isn't kept
any_later : (lists bounds numbers : Bool) (later other : ℕ) → (T bounds → later ≡ other)
    → first_of lists bounds numbers later ≡ first_of lists bounds numbers other
unfolding if
any_later false bounds numbers later other h = refl
any_later true false numbers later other h = refl
any_later true true false later other h = refl
any_later true true true later other h = h tt

pub later_within : (r : meaning.Rules) (j : Job) (later other : ℕ) → (T (bounds_fit r j) → later ≡ other) → job_refusal r j later ≡ job_refusal r j other
unfolding job_refusal
later_within r j later other h = any_later (lists_fit r j) (bounds_fit r j) (numbers_fit r j) later other h
