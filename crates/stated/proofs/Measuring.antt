-- The loops that measure a job: the numbers of the labels that remain, from label i on; and cut values one by one.
-- Assumes nothing.
use mathlib.Core.Path.{◌≡◌, refl, sym, ap}
use Prim.Native.Nat.{ℕ, zero, suc, ◌+◌, ◌/◌, ◌≤◌, ◌<◌, max, zero-le}
use native.Mathlib.Nat.{zero-div, not-suc-le-zero}
use native.Mathlib.Numerals.{add-one}
use native.Mathlib.Omega.{arith}
use mathlib.Core.Bool.{Bool, true, false}
use mathlib.Core.List.{List, [], ◌∷◌}
use lib.Dec.{leb}
use lib.ListN.{length, drop, length-map}
use lib.Seq.{drop-cons, drop-length}
use borrow.Author.Tests.{le-leb}
use Rattle.meaning.specs.Lists.{at, sum, if}
use Rattle.meaning.specs.Cuts.{that_fit, greatest_of, cut_by}

-- ---- cut values

pub cut_long : (d : ℕ) (vs : List ℕ) → length (cut_by d vs) ≡ length vs
unfolding cut_by
cut_long d vs = length-map vs (λ v. v / d)

pub cut_at : (d : ℕ) (vs : List ℕ) (i : ℕ) → at (cut_by d vs) i ≡ at vs i / d
unfolding cut_by
cut_at d [] i = sym (zero-div d)
cut_at d (v ∷ vs) zero = refl
cut_at d (v ∷ vs) (suc i) = cut_at d vs i

-- ---- the numbers of the labels that remain, from label i on

-- with a number more in front, or without it
greatest_if : (b : Bool) (x : ℕ) (xs : List ℕ) → greatest_of (if b (x ∷ xs) xs) ≡ max (if b x 0) (greatest_of xs)
unfolding greatest_of if
greatest_if true x xs = refl
greatest_if false x xs = omega arith

sum_if : (b : Bool) (x : ℕ) (xs : List ℕ) → sum (if b (x ∷ xs) xs) ≡ if b x 0 + sum xs
unfolding sum if
sum_if true x xs = refl
sum_if false x xs = omega arith

module _ (c : ℕ) (ws xs : List ℕ) (long : length xs ≡ length ws) where
  abbrev from_on : ℕ → List ℕ
  from_on i = that_fit c (drop i ws) (drop i xs)

  -- past the last label there are none
  pub none_on : (i : ℕ) → i ≡ length ws → from_on i ≡ []
  unfolding that_fit
  none_on i e = rw (e, drop-length ws)

  module _ (i : ℕ) (inside : i < length ws) where
    next_on : from_on i ≡ if (leb (at ws i) c) (at xs i ∷ from_on (i + 1)) (from_on (i + 1))
    unfolding that_fit
    next_on = rw (add-one, drop-cons ws i 0 inside, drop-cons xs i 0 (omega arith))

    -- what a loop takes of label i, y: its number x, or 0 where it is left aside
    module _ (w x y : ℕ) (weighs : w ≡ at ws i) (is_number : x ≡ at xs i) (is-taken : y ≡ if (leb w c) x 0) where
      here : y ≡ if (leb (at ws i) c) (at xs i) 0
      here = rw (weighs, is_number) at is-taken

      -- the greatest so far, and of those from i on
      pub greatest_on : (p p' all : ℕ) → max p (greatest_of (from_on i)) ≡ all → p' ≡ max p y → max p' (greatest_of (from_on (i + 1))) ≡ all
      greatest_on p p' all e e' =
          omega (arith, here, ap greatest_of next_on, greatest_if (leb (at ws i) c) (at xs i) (from_on (i + 1)))

      -- the sum so far, and of those from i on
      pub sum_on : (s all : ℕ) → s + sum (from_on i) ≡ all → s + y + sum (from_on (i + 1)) ≡ all
      sum_on s all e = omega (arith, here, ap sum next_on, sum_if (leb (at ws i) c) (at xs i) (from_on (i + 1)))

-- none of them is more than their sum
pub one_of_sum : (c : ℕ) (ws xs : List ℕ) (i : ℕ) → i < length ws → at ws i ≤ c → at xs i ≤ sum (that_fit c ws xs)
unfolding that_fit sum if
one_of_sum c [] xs i h l = absurd (not-suc-le-zero h)
one_of_sum c (w ∷ ws) [] i h l = zero-le
one_of_sum c (w ∷ ws) (x ∷ xs) zero h l = rw (le-leb w c l) (omega arith)
one_of_sum c (w ∷ ws) (x ∷ xs) (suc i) h l =
    omega (arith, one_of_sum c ws xs i (omega arith) l, sum_if (leb w c) x (that_fit c ws xs))
