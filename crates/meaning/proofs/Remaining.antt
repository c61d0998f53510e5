-- Kind 9: the labels that remain. A fitting selection picks no other, and so at most m labels and cut values of at most T; the greatest value is one
-- of theirs.
-- Assumes nothing.
use mathlib.Core.Path.{◌≡◌, refl, ap, ◌∙◌, subst}
use Prim.Native.Nat.{ℕ, zero, suc, ◌+◌, ◌*◌, ◌≤◌, ◌<◌, max, zero-le, suc-le-suc}
use native.Mathlib.Nat.{mul-one, mul-zero, mul-le-mul_left, le_trans, le_refl, not-suc-le-zero}
use native.Mathlib.Decide.{dec_lt}
use native.Mathlib.Omega.{arith}
use mathlib.Core.Bool.{Bool, true, false}
use mathlib.Core.List.{List, [], ◌∷◌}
use lib.Dec.{leb}
use lib.ListN.{length, take, get_or-eq_default}
use lib.Seq.{take_all, take-suc}
use borrow.Author.Tests.{leb-true, leb-false, le-leb, lt-leb}
use Rattle.meaning.specs.Lists.{at, sum, total, tally, if}
use Rattle.meaning.specs.Job.{Job, labels, once}
use Rattle.meaning.specs.Knapsacks.{Fits, MayPick}
use Rattle.meaning.proofs.Tally.{tally_append}
use Rattle.meaning.proofs.Totals.{total_part}
use Rattle.meaning.specs.Cuts.{remain_of, remain, that_fit, greatest_of}

-- a test and what it gives
data Tested (b : Bool) : Type 0 where
  passes : b ≡ true → Tested b
  fails : b ≡ false → Tested b

tested : (b : Bool) → Tested b
tested true = passes refl
tested false = fails refl

-- one of a label, or none, where the label weighs more than c: none
none_of : (w x c : ℕ) → x ≤ 1 → w * x ≤ c → c < w → x ≡ 0
none_of w zero c h l g = refl
none_of w (suc x) c h l g = let one : x ≡ 0 = omega arith in absurd (omega (arith, mul-one w, rw one at l))

-- each count at most 1, and no label weighs more than c
record EachFits (c : ℕ) (ws r : List ℕ) : Type 0 where
  ones : (k : ℕ) → at r k ≤ 1
  within : (k : ℕ) → at ws k * at r k ≤ c

each_rest : {c w x : ℕ} {ws r : List ℕ} → EachFits c (w ∷ ws) (x ∷ r) → EachFits c ws r
each_rest l = record { ones = λ k. l.ones (suc k); within = λ k. l.within (suc k) }

-- the sum of such counts is at most the number of labels that weigh at most c
few : (c : ℕ) (ws r : List ℕ) → length r ≡ length ws → EachFits c ws r → sum r ≤ tally (λ w. leb w c) ws
unfolding sum tally if
few c [] [] e l = zero-le
few c [] (x ∷ r) e l = absurd (omega arith)
few c (w ∷ ws) [] e l = zero-le
few c (w ∷ ws) (x ∷ r) e l =
    let rest : sum r ≤ tally (λ w. leb w c) ws = few c ws r (omega arith) (each_rest l) in
    elim (tested (leb w c)) [
      | passes t ↦ rw t (omega (arith, l.ones 0))
      | fails t ↦ rw t (omega (arith, none_of w x c (l.ones 0) (l.within 0) (leb-false w c t)))
    ]

-- their total is at most the sum of the numbers of those labels
total_few : (c : ℕ) (ws xs r : List ℕ) → length r ≡ length ws → EachFits c ws r → total xs r ≤ sum (that_fit c ws xs)
unfolding sum total that_fit if
total_few c ws [] r e l = zero-le
total_few c [] (x ∷ xs) [] e l = zero-le
total_few c [] (x ∷ xs) (y ∷ r) e l = absurd (omega arith)
total_few c (w ∷ ws) (x ∷ xs) [] e l = zero-le
total_few c (w ∷ ws) (x ∷ xs) (y ∷ r) e l =
    let rest : total xs r ≤ sum (that_fit c ws xs) = total_few c ws xs r (omega arith) (each_rest l) in
    elim (tested (leb w c)) [
      | passes t ↦ rw t (omega (arith, mul-le-mul_left x (l.ones 0), mul-one x))
      | fails t ↦ rw t (omega (arith, ap (λ (z : ℕ). x * z) (none_of w y c (l.ones 0) (l.within 0) (leb-false w c t)), mul-zero x))
    ]

-- the greatest of those numbers, where it isn't 0, is that of a label
pub record GreatestAt (c : ℕ) (ws xs : List ℕ) (g : ℕ) : Type 0 where
  pub label : ℕ
  pub inside : label < length ws
  pub light : at ws label ≤ c
  pub number : at xs label ≡ g

later : {c w x g : ℕ} {ws xs : List ℕ} → GreatestAt c ws xs g → GreatestAt c (w ∷ ws) (x ∷ xs) g
later r = record { label = suc r.label; inside = suc-le-suc r.inside; light = r.light; number = r.number }

pub greatest_reached : (c : ℕ) (ws xs : List ℕ) (g : ℕ) → g ≡ greatest_of (that_fit c ws xs) → 0 < g → GreatestAt c ws xs g
unfolding that_fit greatest_of if
greatest_reached c [] xs g e h = absurd (omega arith)
greatest_reached c (w ∷ ws) [] g e h = absurd (omega arith)
greatest_reached c (w ∷ ws) (x ∷ xs) g e h =
    elim (tested (leb w c)) [
      | passes t ↦
          let e' : g ≡ max x (greatest_of (that_fit c ws xs)) = rw t at e in
          elim (tested (leb (greatest_of (that_fit c ws xs)) x)) [
            | passes u ↦ record {
              label = 0;
              inside = suc-le-suc zero-le;
              light = leb-true w c t;
              number = omega (arith, leb-true (greatest_of (that_fit c ws xs)) x u);
            }
            | fails u ↦ later (greatest_reached c ws xs g (omega (arith, leb-false (greatest_of (that_fit c ws xs)) x u)) h)
          ]
      | fails t ↦ later (greatest_reached c ws xs g (rw t at e) h)
    ]

module _ (j : Job) where
  -- a fitting selection picks no label that is left aside, and each other at most once
  fits_each : (r : List ℕ) → Fits once j (labels j) j.budget r → EachFits j.budget j.weights r
  unfolding MayPick labels
  fits_each r f = record {
    ones = λ k. at_most k;
    within = λ k. le_trans (total_part j.weights r k) f.weight;
  }
    where
      at_most : (k : ℕ) → at r k ≤ 1
      at_most k =
          elim (dec_lt k (labels j)) [
            | yes h ↦ f.selection.allowed k h
            | no h ↦ omega (arith, get_or-eq_default r 0 {n = k} (omega (arith, f.selection.one_each)))
          ]

  pub few_picked : (r : List ℕ) → Fits once j (labels j) j.budget r → sum r ≤ remain j
  unfolding remain remain_of labels
  few_picked r f =
      rw (take_all (length j.weights) j.weights (le_refl (length j.weights)))
      (few j.budget j.weights r f.selection.one_each (fits_each r f))

  -- the cut values, or whatever numbers, of a fitting selection sum to no more than those of the remaining labels
  pub total_fitting : (xs r : List ℕ) → Fits once j (labels j) j.budget r → total xs r ≤ sum (that_fit j.budget j.weights xs)
  unfolding labels
  total_fitting xs r f = total_few j.budget j.weights xs r f.selection.one_each (fits_each r f)

-- ---- how many of the first labels remain

module _ (j : Job) where
  pub remain_none : remain_of j 0 ≡ 0
  unfolding remain_of tally
  remain_none = refl

  -- label i, in one equation
  pub remain_next : (i : ℕ) → i < labels j → remain_of j (suc i) ≡ remain_of j i + if (leb (at j.weights i) j.budget) 1 0
  unfolding remain_of labels tally
  remain_next i h =
      let light : ℕ → Bool = λ w. leb w j.budget in
      rw (take-suc j.weights i 0 h) (tally_append light (take i j.weights) (at j.weights i ∷ []) ∙ omega arith)

  -- a label that remains is one more
  pub remain_more : (i : ℕ) → i < labels j → at j.weights i ≤ j.budget → remain_of j (suc i) ≡ remain_of j i + 1
  unfolding if
  remain_more i h light = remain_next i h ∙ rw (le-leb (at j.weights i) j.budget light)

  -- a label left aside is none
  pub remain_same : (i : ℕ) → i < labels j → j.budget < at j.weights i → remain_of j (suc i) ≡ remain_of j i
  unfolding if
  remain_same i h heavy = remain_next i h ∙ rw (lt-leb (at j.weights i) j.budget heavy) (omega arith)

-- as far into a list as r members pass
record Passed (test : ℕ → Bool) (ws : List ℕ) (r : ℕ) : Type 0 where
  pub place : ℕ
  pub inside : place ≤ length ws
  pub passed : tally test (take place ws) ≡ r

passed_later : (test : ℕ → Bool) (w n r : ℕ) (ws : List ℕ) → if (test w) 1 0 ≡ n → Passed test ws r → Passed test (w ∷ ws) (n + r)
unfolding tally
passed_later test w n r ws e k = record { place = suc k.place; inside = suc-le-suc k.inside; passed = omega (arith, k.passed) }

passed_by : (test : ℕ → Bool) (ws : List ℕ) (r : ℕ) → r ≤ tally test ws → Passed test ws r
unfolding tally if
passed_by test ws zero h = record { place = 0; inside = zero-le; passed = refl }
passed_by test [] (suc r) h = absurd (not-suc-le-zero h)
passed_by test (w ∷ ws) (suc r) h =
    elim (tested (test w)) [
      | passes t ↦
          let one : ◌≡◌ {A = ℕ} (if (test w) 1 0) 1 = rw t in
          let more : 1 + r ≡ suc r = omega arith in
          subst (λ (z : ℕ). Passed test (w ∷ ws) z) more (passed_later test w 1 r ws one (passed_by test ws r (omega arith)))
      | fails t ↦
          let none : ◌≡◌ {A = ℕ} (if (test w) 1 0) 0 = rw t in
          let same : 0 + suc r ≡ suc r = omega arith in
          subst (λ (z : ℕ). Passed test (w ∷ ws) z) same (passed_later test w 0 (suc r) ws none (passed_by test ws (suc r) (omega arith)))
    ]

-- the first labels of which r remain
pub row_of : (j : Job) (r : ℕ) → r ≤ remain j → (i : ℕ) × (i ≤ labels j) × (remain_of j i ≡ r)
unfolding remain remain_of labels
row_of j r h =
    let all : take (length j.weights) j.weights ≡ j.weights = take_all (length j.weights) j.weights (le_refl (length j.weights)) in
    let k = passed_by (λ w. leb w j.budget) j.weights r (rw all at h) in
    (k.place, k.inside, k.passed)

-- ---- where none remains

none_fit : (c : ℕ) (ws xs : List ℕ) → tally (λ w. leb w c) ws ≡ 0 → sum (that_fit c ws xs) ≡ 0
unfolding that_fit tally sum if
none_fit c [] xs e = refl
none_fit c (w ∷ ws) [] e = refl
none_fit c (w ∷ ws) (x ∷ xs) e =
    elim (tested (leb w c)) [
      | passes t ↦ let e' : 1 + tally (λ w. leb w c) ws ≡ 0 = rw t at e in absurd (omega arith)
      | fails t ↦ rw t (none_fit c ws xs (omega arith))
    ]

pub none_fit_sum : (j : Job) (xs : List ℕ) → remain j ≡ 0 → sum (that_fit j.budget j.weights xs) ≡ 0
unfolding remain remain_of labels
none_fit_sum j xs e = none_fit j.budget j.weights xs (rw (take_all (length j.weights) j.weights (le_refl (length j.weights))) at e)
