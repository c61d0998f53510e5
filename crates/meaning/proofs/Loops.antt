-- The steps of loops over a list, for definitions by recursion on it: a sum, and a test of all, grow at the end of the part passed.
-- Assumes nothing.
use mathlib.Core.Path.{◌≡◌, refl, ap, ◌∙◌}
use Prim.Native.Nat.{ℕ, suc, ◌+◌, ◌≤◌, ◌<◌}
use native.Mathlib.Numerals.{add-one}
use native.Mathlib.Omega.{arith}
use mathlib.Core.Bool.{Bool, true, false, ◌&&◌}
use mathlib.Core.List.{List, [], ◌∷◌, ◌++◌}
use lib.ListN.{length, take}
use lib.Seq.{take-suc, take-length, take_all}
use Rattle.meaning.specs.Lists.{at, sum, every}

pub and_true : (a : Bool) → (a && true) ≡ a
and_true true = refl
and_true false = refl

pub and_assoc : (a b c : Bool) → (a && (b && c)) ≡ ((a && b) && c)
and_assoc true b c = refl
and_assoc false b c = refl

pub sum_snoc : (xs : List ℕ) (x : ℕ) → sum (xs ++ (x ∷ [])) ≡ sum xs + x
unfolding sum
sum_snoc [] x = omega arith
sum_snoc (y ∷ xs) x = omega (arith, sum_snoc xs x)

-- one member more
pub sum_more : (xs : List ℕ) (i : ℕ) → i < length xs → sum (take (suc i) xs) ≡ sum (take i xs) + at xs i
sum_more xs i h = ap sum (take-suc xs i 0 h) ∙ sum_snoc (take i xs) (at xs i)

pub sum_all : (xs : List ℕ) → sum (take (length xs) xs) ≡ sum xs
sum_all xs = ap sum (take-length xs)

-- a test of two lists, one after the other
pub every_joined : (f : ℕ → Bool) (xs ys : List ℕ) → every f (xs ++ ys) ≡ (every f xs && every f ys)
unfolding every
every_joined f [] ys = refl
every_joined f (x ∷ xs) ys = ap (λ (b : Bool). f x && b) (every_joined f xs ys) ∙ and_assoc (f x) (every f xs) (every f ys)

-- ---- the same as a loop asks for them

-- the code adds member i, and goes on at i + 1
pub sum_step : (xs : List ℕ) (acc i : ℕ) → i < length xs → acc ≡ sum (take i xs) → acc + at xs i ≡ sum (take (i + 1) xs)
sum_step xs acc i h e = rw (add-one, sum_more xs i h, e)

-- past the end the sum is whole
pub sum_done : (xs : List ℕ) (acc i : ℕ) → length xs ≤ i → acc ≡ sum (take i xs) → acc ≡ sum xs
sum_done xs acc i h e = e ∙ ap sum (take_all i xs h)

-- the code tests member i too
pub every_step : (f : ℕ → Bool) (xs : List ℕ) (i : ℕ) → i < length xs → every f (take (i + 1) xs) ≡ (every f (take i xs) && f (at xs i))
unfolding every
every_step f xs i h =
    rw add-one
    (ap (every f) (take-suc xs i 0 h) ∙ every_joined f (take i xs) (at xs i ∷ []) ∙ ap (λ (b : Bool). every f (take i xs) && b) (and_true (f (at xs i))))
