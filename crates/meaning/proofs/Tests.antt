-- Tests that compute, over all lists of counts below given limits, and what they show.
-- Assumes nothing.
use mathlib.Core.Path.{◌≡◌}
use Prim.Native.Nat.{ℕ, zero, suc, ◌*◌, ◌/◌, ◌≤◌, ◌<◌, zero-le, suc-le-suc}
use native.Mathlib.Nat.{le_of_suc-le-suc, not-suc-le-zero, le_refl, le-div_iff_mul-le, mul_comm, suc_inj}
use native.Mathlib.Omega.{arith}
use mathlib.Core.Bool.{Bool, true, false, not, ◌&&◌, ◌||◌}
use mathlib.Core.List.{List, [], ◌∷◌, map}
use lib.Dec.{T, leb, leb→le}
use mir.Facts.{and_yes, yes_and}
use borrow.Author.Count.{below_more}
use lib.ListN.{length}
use Rattle.meaning.specs.Lists.{at, total, every}

-- ---- tests of two tests, beside those of `mir.Facts`

-- where a holds, so does b
abbrev pub ◌implies◌ : Bool → Bool → Bool
a implies b = not a || b

infixr 20 ◌implies◌
pub implied : (a b : Bool) → T (a implies b) → T a → T b
implied true b t s = t
implied false b t s = absurd s

pub implies_intro : (a b : Bool) → (T a → T b) → T (a implies b)
implies_intro true b f = f tt
implies_intro false b f = tt

pub or_left : (a b : Bool) → T a → T (a || b)
or_left true b t = tt
or_left false b t = absurd t

pub or_right : (a b : Bool) → T b → T (a || b)
or_right true b t = tt
or_right false b t = t

-- ---- all numbers below n, all numbers up to n

-- what holds up to n and at n + 1 holds up to n + 1
pub up_to_lem : {P : ℕ → Type 0} (n : ℕ) → ((x : ℕ) → x ≤ n → P x) → P (suc n) → (x : ℕ) → x ≤ suc n → P x
up_to_lem {P} n before here x h = below_more P (suc n) (λ y k. before y (le_of_suc-le-suc k)) here x (omega arith)

-- each number below n passes
unfoldable pub below : ℕ → (ℕ → Bool) → Bool
below zero f = true
below (suc n) f = f n && below n f

pub below_out : (n : ℕ) (f : ℕ → Bool) → T (below n f) → (i : ℕ) → i < n → T (f i)
unfolding below
below_out zero f t i h = absurd (not-suc-le-zero h)
below_out (suc n) f t i h =
    let (here, rest) = and_yes (f n) (below n f) t in below_more (λ (x : ℕ). T (f x)) n (below_out n f rest) here i (omega arith)

pub below_in : (n : ℕ) (f : ℕ → Bool) → ((i : ℕ) → i < n → T (f i)) → T (below n f)
unfolding below
below_in zero f h = tt
below_in (suc n) f h = yes_and (f n) (below n f) (h n (le_refl (suc n))) (below_in n f (λ i k. h i (omega arith)))

-- ---- all lists of counts within limits

-- a count for each limit, and none above it
unfoldable pub Within : List ℕ → List ℕ → Type 0
Within [] [] = Unit
Within [] (x ∷ q) = ⊥
Within (l ∷ limits) [] = ⊥
Within (l ∷ limits) (x ∷ q) = (x ≤ l) × Within limits q

-- each list within the limits passes
unfoldable pub all : List ℕ → (List ℕ → Bool) → Bool
unfolding below
all [] f = f []
all (l ∷ limits) f = below (suc l) (λ x. all limits (λ q. f (x ∷ q)))

-- so does each of them
pub all_out : (limits : List ℕ) (f : List ℕ → Bool) → T (all limits f) → (q : List ℕ) → Within limits q → T (f q)
unfolding all Within
all_out [] f t [] w = t
all_out [] f t (x ∷ q) w = absurd w
all_out (l ∷ limits) f t [] w = absurd w
all_out (l ∷ limits) f t (x ∷ q) w =
    all_out limits (λ q'. f (x ∷ q')) (below_out (suc l) (λ y. all limits (λ q'. f (y ∷ q'))) t x (suc-le-suc w.0)) q w.1

-- a list is within limits where each count is
pub within_each : (limits q : List ℕ) → length q ≡ length limits → ((m : ℕ) → m < length limits → at q m ≤ at limits m) → Within limits q
unfolding Within
within_each [] [] e h = tt
within_each [] (x ∷ q) e h = absurd (omega arith)
within_each (l ∷ limits) [] e h = absurd (omega arith)
within_each (l ∷ limits) (x ∷ q) e h = (h 0 (suc-le-suc zero-le), within_each limits q (suc_inj e) (λ m k. h (suc m) (suc-le-suc k)))

-- blocks that weigh at most c: no count is above c over the block's weight
pub within_weight : (ws q : List ℕ) (c : ℕ) → T (every (leb 1) ws) → length q ≡ length ws → total ws q ≤ c → Within (map (λ (w : ℕ). c / w) ws) q
unfolding Within total every
within_weight [] [] c t e h = tt
within_weight [] (x ∷ q) c t e h = absurd (omega arith)
within_weight (w ∷ ws) [] c t e h = absurd (omega arith)
within_weight (w ∷ ws) (x ∷ q) c t e h =
    let (pos, rest) = and_yes (leb 1 w) (every (leb 1) ws) t in
    let heavy : x * w ≤ c = omega (arith, mul_comm x w) in
    ((le-div_iff_mul-le (leb→le 1 w pos)).1 heavy, within_weight ws q c rest (suc_inj e) (omega arith))
