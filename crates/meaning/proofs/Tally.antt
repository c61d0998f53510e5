-- How many members of a list pass a test.
-- Assumes nothing.
use mathlib.Core.Path.{◌∙◌, ◌≡◌, ap, refl, subst, sym}
use mathlib.Core.Logic.{inl, inr}
use Prim.Native.Nat.{◌+◌, ◌<◌, ◌≤◌, min, suc, zero, zero-le, ℕ}
use native.Mathlib.Decide.{dec_le}
use native.Mathlib.Nat.{le_refl}
use native.Mathlib.Numerals.{add-one}
use native.Mathlib.Omega.{arith}
use mathlib.Core.Bool.{Bool, false, true}
use mathlib.Core.List.Memᴰ
use mathlib.Core.List.{List, Memᴰ, [], ◌++◌, ◌∷◌, map}
use lib.Dec.{T, ltb}
use lib.ListN.{length}
use borrow.Author.Tests.{le-ltb, lt-ltb}
use mir.Val.{bool_byte}
use Rattle.meaning.specs.Lists.{if, up_to, tally}
use Rattle.meaning.specs.Counting.{Counted, Distinct}
use Rattle.meaning.proofs.UpTo.{up_to_length}
use Rattle.meaning.proofs.Counting.{counted_iff, counted_unique}

one_le : (b c : Bool) → (T b → T c) → if b 1 0 ≤ if c 1 0
unfolding if
one_le true true h = le_refl 1
one_le true false h = absurd (h tt)
one_le false c h = zero-le

one_lt : (b c : Bool) → (T b → ⊥) → T c → if b 1 0 < if c 1 0
unfolding if
one_lt true c h t = absurd (h tt)
one_lt false true h t = le_refl 1
one_lt false false h t = absurd t

holds : (b : Bool) → T b → b ≡ true
holds true h = refl
holds false h = absurd h

fails : (b : Bool) → ¬ T b → b ≡ false
fails true h = absurd (h tt)
fails false h = refl

-- where each that passes f passes g, no more pass f
pub tally_le : (f g : ℕ → Bool) (xs : List ℕ) → ((x : ℕ) → T (f x) → T (g x)) → tally f xs ≤ tally g xs
unfolding tally
tally_le f g [] h = zero-le
tally_le f g (x ∷ xs) h = omega (arith, one_le (f x) (g x) (h x), tally_le f g xs h)

-- and fewer, where some member passes g alone
pub tally_lt : (f g : ℕ → Bool) (xs : List ℕ) → ((x : ℕ) → T (f x) → T (g x)) → (a : ℕ) → Memᴰ a xs → T (g a) → (T (f a) → ⊥)
    → tally f xs < tally g xs
unfolding tally
tally_lt f g [] h a m yes' no' = absurd (Memᴰ.not-nil m)
tally_lt f g (x ∷ xs) h a m yes' no' =
    elim (Memᴰ.cases_cons m) [
      | inl e ↦ omega (arith, one_lt (f x) (g x) (λ t. no' (subst (λ (z : ℕ). T (f z)) (sym e) t)) (subst (λ (z : ℕ). T (g z)) e yes'), tally_le f g xs h)
      | inr k ↦ omega (arith, one_le (f x) (g x) (h x), tally_lt f g xs h a k yes' no')
    ]

-- every member passes a test that is always true
pub all_tally : (xs : List ℕ) → tally (λ x. true) xs ≡ length xs
unfolding tally if
all_tally [] = refl
all_tally (x ∷ xs) = omega (arith, all_tally xs)

-- of a list without repetition, just so many members pass
pub tally_counts : (f : ℕ → Bool) (xs : List ℕ) → Distinct xs → Counted (λ (a : ℕ). Memᴰ a xs × T (f a)) (tally f xs)
unfolding tally Distinct if
tally_counts f [] d = record {
  those = [];
  distinct = tt;
  no_others = λ a m. absurd (Memᴰ.not-nil m);
  them_all = λ a h. absurd (Memᴰ.not-nil h.0);
  size = refl;
}
tally_counts f (x ∷ xs) d = go (f x) refl (tally_counts f xs d.1)
  where
    go : (b : Bool) → f x ≡ b → Counted (λ (a : ℕ). Memᴰ a xs × T (f a)) (tally f xs)
        → Counted (λ (a : ℕ). Memᴰ a (x ∷ xs) × T (f a)) (if b 1 0 + tally f xs)
    go true e c = record {
      those = x ∷ c.those;
      distinct = (λ m. d.0 (c.no_others x m).0, c.distinct);
      no_others = λ a m.
          elim (Memᴰ.cases_cons m) [
            | inl here ↦ (Memᴰ.head here, rw (here, e) tt)
            | inr k ↦ (Memᴰ.tail (c.no_others a k).0, (c.no_others a k).1)
          ];
      them_all = λ a h. elim (Memᴰ.cases_cons h.0) [ inl here ↦ Memᴰ.head here | inr k ↦ Memᴰ.tail (c.them_all a (k, h.1)) ];
      size = omega (arith, c.size);
    }
    go false e c = record {
      those = c.those;
      distinct = c.distinct;
      no_others = λ a m. (Memᴰ.tail (c.no_others a m).0, (c.no_others a m).1);
      them_all = λ a h. elim (Memᴰ.cases_cons h.0) [ inl here ↦ absurd (rw (here, e) at h.1) | inr k ↦ c.them_all a (k, h.1) ];
      size = omega (arith, c.size);
    }

-- lists without repetition and with the same members have the same tallies
pub tally_same : (f : ℕ → Bool) (xs ys : List ℕ) → Distinct xs → Distinct ys → ((a : ℕ) → Memᴰ a xs → Memᴰ a ys)
    → ((a : ℕ) → Memᴰ a ys → Memᴰ a xs) → tally f xs ≡ tally f ys
tally_same f xs ys d e there back =
    counted_unique (tally_counts f xs d)
    (counted_iff (tally_counts f ys e) (λ a h. (back a h.0, h.1)) (λ a h. (there a h.0, h.1)))

pub tally_map : (f : ℕ → Bool) (g : ℕ → ℕ) (xs : List ℕ) → tally f (map g xs) ≡ tally (λ x. f (g x)) xs
unfolding tally
tally_map f g [] = refl
tally_map f g (x ∷ xs) = ap (λ (n : ℕ). if (f (g x)) 1 0 + n) (tally_map f g xs)

pub tally_append : (f : ℕ → Bool) (xs ys : List ℕ) → tally f (xs ++ ys) ≡ tally f xs + tally f ys
unfolding tally
tally_append f [] ys = omega arith
tally_append f (x ∷ xs) ys = omega (arith, tally_append f xs ys)

-- one number more
pub tally_step : (f : ℕ → Bool) (k : ℕ) → tally f (up_to (suc k)) ≡ tally f (up_to k) + if (f k) 1 0
unfolding up_to tally
tally_step f k = tally_append f (up_to k) (k ∷ []) ∙ omega arith

-- where each of the first k numbers that passes f passes g, no more of them pass f
pub tally_each : (f g : ℕ → Bool) (k : ℕ) → ((i : ℕ) → i < k → T (f i) → T (g i)) → tally f (up_to k) ≤ tally g (up_to k)
unfolding up_to tally
tally_each f g zero h = zero-le
tally_each f g (suc k) h =
    omega (arith, tally_step f k, tally_step g k, tally_each f g k (λ i l. h i (omega arith)), one_le (f k) (g k) (h k (le_refl (suc k))))

-- where each of the first k numbers passes, k do
pub tally_all : (f : ℕ → Bool) (k : ℕ) → ((i : ℕ) → i < k → T (f i)) → tally f (up_to k) ≡ k
unfolding up_to tally if
tally_all f zero h = refl
tally_all f (suc k) h = tally_step f k ∙ rw (holds (f k) (h k (le_refl (suc k)))) (omega (arith, tally_all f k (λ i l. h i (omega arith))))

-- where none does, none do
pub tally_none : (f : ℕ → Bool) (k : ℕ) → ((i : ℕ) → i < k → ¬ T (f i)) → tally f (up_to k) ≡ 0
unfolding up_to tally if
tally_none f zero h = refl
tally_none f (suc k) h = tally_step f k ∙ rw (fails (f k) (h k (le_refl (suc k)))) (omega (arith, tally_none f k (λ i l. h i (omega arith))))

-- of the first k numbers, the lesser of k and s are below s
pub tally_below : (k s : ℕ) → tally (λ t. ltb t s) (up_to k) ≡ min k s
unfolding up_to tally if
tally_below zero s = omega arith
tally_below (suc k) s =
    tally_step (λ t. ltb t s) k
    ∙ elim (dec_le s k) [
      | yes le ↦ rw (le-ltb k s le) (omega (arith, tally_below k s))
      | no gt ↦ rw (lt-ltb k s (omega arith)) (omega (arith, tally_below k s))
    ]

-- ---- as a loop counts: a test that passed is one more

-- a test as a number
pub one_or_none : (b : Bool) → bool_byte b ≡ if b 1 0
unfolding if
one_or_none true = refl
one_or_none false = refl

-- no more are counted than there are
pub tally_most : (f : ℕ → Bool) (n : ℕ) → tally f (up_to n) ≤ n
tally_most f n = omega (arith, tally_le f (λ i. true) (up_to n) (λ i t. tt), all_tally (up_to n), up_to_length n)

-- the code adds the test of i, and goes on at i + 1
pub tally_more : (f : ℕ → Bool) (i count : ℕ) (b : Bool) → b ≡ f i → count ≡ tally f (up_to i) → count + bool_byte b ≡ tally f (up_to (i + 1))
tally_more f i count b e c = rw add-one (rw (one_or_none b, e, c, tally_step))
