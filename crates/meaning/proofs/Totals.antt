-- What a list of counts comes to: with one count more at its end, and with one more or one fewer of a label.
-- Assumes nothing.
use mathlib.Core.Path.{◌≡◌, refl, ap, ◌∙◌, sym}
use mathlib.Core.Logic.{◌⊎◌, inl, inr}
use Prim.Native.Nat.{ℕ, zero, suc, ◌+◌, ◌-◌, ◌*◌, ◌<◌, zero-le, suc-le-suc, ◌≤◌}
use native.Mathlib.Nat.{not-suc-le-zero, mul-zero, mul-suc, zero-mul, le_of_eq}
use native.Mathlib.Omega.{arith}
use mathlib.Core.List.{List, [], ◌∷◌, ◌++◌}
use lib.ListN.{length, set, length-set, take, replicate}
use lib.Seq.{get_or-set_same, get_or-set_other, length-take-le, set-get_or, set-set, take_all, take-suc}
use Rattle.meaning.specs.Lists.{at, sum, total}

-- no counts come to 0
pub total_none : (ws : List ℕ) → total ws [] ≡ 0
unfolding total
total_none [] = refl
total_none (w ∷ ws) = refl

-- one count more
pub total_more : (ws p : List ℕ) (x : ℕ) → total ws (p ++ (x ∷ [])) ≡ total ws p + at ws (length p) * x
unfolding total
total_more [] p x = omega (arith, zero-mul x)
total_more (w ∷ ws) [] x = omega (arith, total_none ws)
total_more (w ∷ ws) (y ∷ p) x = omega (arith, total_more ws p x)

-- the same, where the list's length is known as i
pub total_with : (ws p : List ℕ) (x i : ℕ) → length p ≡ i → total ws (p ++ (x ∷ [])) ≡ total ws p + at ws i * x
total_with ws p x i e = total_more ws p x ∙ ap (λ (n : ℕ). total ws p + at ws n * x) e

-- a list of i + 1 counts is one of i, and the last
pub cut_last : (q : List ℕ) (i : ℕ) → length q ≡ suc i → q ≡ take i q ++ (at q i ∷ [])
cut_last q i e = sym (take_all (suc i) q (omega arith)) ∙ take-suc q i 0 (omega arith)

-- how long the front is
pub front_long : (q : List ℕ) (i : ℕ) → length q ≡ suc i → length (take i q) ≡ i
front_long q i e = length-take-le i q (omega arith)

-- what a list of i + 1 counts comes to
pub total_cut : (ws q : List ℕ) (i : ℕ) → length q ≡ suc i → total ws q ≡ total ws (take i q) + at ws i * at q i
total_cut ws q i e = ap (total ws) (cut_last q i e) ∙ total_with ws (take i q) (at q i) i (front_long q i e)

-- a list of no counts is empty
pub empty_of : (q : List ℕ) → length q ≡ 0 → q ≡ []
empty_of q e = sym (take_all 0 q (omega arith))

-- no label weighs more than all of them
pub total_part : (ws p : List ℕ) (m : ℕ) → at ws m * at p m ≤ total ws p
unfolding total
total_part [] p m = le_of_eq (zero-mul (at p m))
total_part (w ∷ ws) [] m = le_of_eq (mul-zero (at (w ∷ ws) m))
total_part (w ∷ ws) (x ∷ p) zero = omega arith
total_part (w ∷ ws) (x ∷ p) (suc m) = omega (arith, total_part ws p m)

-- ---- one more of label m, one fewer of it

total_set : (ws p : List ℕ) (m x : ℕ) → m < length p → total ws (set p m x) + at ws m * at p m ≡ total ws p + at ws m * x
unfolding total
total_set ws [] m x h = absurd (not-suc-le-zero h)
total_set [] (y ∷ p) zero x h = omega arith
total_set [] (y ∷ p) (suc m) x h = omega arith
total_set (w ∷ ws) (y ∷ p) zero x h = omega arith
total_set (w ∷ ws) (y ∷ p) (suc m) x h = omega (arith, total_set ws p m x (omega arith))

sum_set : (p : List ℕ) (m x : ℕ) → m < length p → sum (set p m x) + at p m ≡ sum p + x
unfolding sum
sum_set [] m x h = absurd (not-suc-le-zero h)
sum_set (y ∷ p) zero x h = omega arith
sum_set (y ∷ p) (suc m) x h = omega (arith, sum_set p m x (omega arith))

-- p with one more of label m
unfoldable pub one_more : List ℕ → ℕ → List ℕ
one_more p m = set p m (suc (at p m))

-- p with one fewer of label m
unfoldable pub one_fewer : List ℕ → ℕ → List ℕ
one_fewer p m = set p m (at p m - 1)

pub length_more : (p : List ℕ) (m : ℕ) → length (one_more p m) ≡ length p
unfolding one_more
length_more p m = length-set p m (suc (at p m))

pub length_fewer : (p : List ℕ) (m : ℕ) → length (one_fewer p m) ≡ length p
unfolding one_fewer
length_fewer p m = length-set p m (at p m - 1)

pub more_total : (ws p : List ℕ) (m : ℕ) → m < length p → total ws (one_more p m) ≡ total ws p + at ws m
unfolding one_more
more_total ws p m h = omega (arith, total_set ws p m (suc (at p m)) h, mul-suc (at ws m) (at p m))

pub more_sum : (p : List ℕ) (m : ℕ) → m < length p → sum (one_more p m) ≡ suc (sum p)
unfolding one_more
more_sum p m h = omega (arith, sum_set p m (suc (at p m)) h)

pub fewer_total : (ws p : List ℕ) (m : ℕ) → m < length p → 0 < at p m → total ws (one_fewer p m) + at ws m ≡ total ws p
unfolding one_fewer
fewer_total ws p m h pos =
    let e : suc (at p m - 1) ≡ at p m = omega arith in
    omega (arith, total_set ws p m (at p m - 1) h, mul-suc (at ws m) (at p m - 1), ap (λ (x : ℕ). at ws m * x) e)

pub fewer_sum : (p : List ℕ) (m : ℕ) → m < length p → 0 < at p m → suc (sum (one_fewer p m)) ≡ sum p
unfolding one_fewer
fewer_sum p m h pos = omega (arith, sum_set p m (at p m - 1) h)

-- a list of counts is all 0, or has a positive one
pub positive_or_zero : (p : List ℕ) → ((m : ℕ) × (m < length p) × (0 < at p m)) ⊎ (sum p ≡ 0)
unfolding sum
positive_or_zero [] = inr refl
positive_or_zero (suc x ∷ p) = inl (0, suc-le-suc zero-le, suc-le-suc zero-le)
positive_or_zero (zero ∷ p) =
    elim (positive_or_zero p) [ inl (m, h, pos) ↦ inl (suc m, suc-le-suc h, pos) | inr e ↦ inr (omega arith) ]

pub sum_zeros : (n : ℕ) → sum (replicate n 0) ≡ 0
unfolding sum
sum_zeros zero = refl
sum_zeros (suc n) = omega (arith, sum_zeros n)

-- a list of counts that are all 0 comes to 0
pub zero_total : (ws p : List ℕ) → sum p ≡ 0 → total ws p ≡ 0
unfolding sum total
zero_total [] p e = refl
zero_total (w ∷ ws) [] e = refl
zero_total (w ∷ ws) (zero ∷ p) e = omega (arith, mul-zero w, zero_total ws p (omega arith))
zero_total (w ∷ ws) (suc x ∷ p) e = absurd (omega arith)

pub at_more : (p : List ℕ) (m : ℕ) → m < length p → at (one_more p m) m ≡ suc (at p m)
unfolding one_more
at_more p m h = get_or-set_same p m (suc (at p m)) 0 h

pub at_more_other : (p : List ℕ) (m i : ℕ) → (i ≡ m → ⊥) → at (one_more p m) i ≡ at p i
unfolding one_more
at_more_other p m i h = get_or-set_other p m i (suc (at p m)) 0 h

pub at_fewer : (p : List ℕ) (m : ℕ) → m < length p → at (one_fewer p m) m ≡ at p m - 1
unfolding one_fewer
at_fewer p m h = get_or-set_same p m (at p m - 1) 0 h

pub at_fewer_other : (p : List ℕ) (m i : ℕ) → (i ≡ m → ⊥) → at (one_fewer p m) i ≡ at p i
unfolding one_fewer
at_fewer_other p m i h = get_or-set_other p m i (at p m - 1) 0 h

-- what stood at m, put back
put_back : (p : List ℕ) (m x y : ℕ) → y ≡ at p m → set (set p m x) m y ≡ p
put_back p m x y e = set-set p m x y ∙ ap (set p m) e ∙ set-get_or p m 0

-- one more and then one fewer is as it was, and the other way round
pub fewer_more : (p : List ℕ) (m : ℕ) → m < length p → one_fewer (one_more p m) m ≡ p
unfolding one_fewer one_more
fewer_more p m h = put_back p m _ _ (omega (arith, at_more p m h))

pub more_fewer : (p : List ℕ) (m : ℕ) → m < length p → 0 < at p m → one_more (one_fewer p m) m ≡ p
unfolding one_fewer one_more
more_fewer p m h pos = put_back p m _ _ (omega (arith, at_fewer p m h))
