-- Membership and repetition in a list, as tests that compute.
-- Assumes nothing.
use mathlib.Core.Path.{◌≡◌, ap₂, refl, subst, sym}
use mathlib.Core.Logic.{inl, inr}
use Prim.Native.Nat.{ℕ}
use mathlib.Core.Bool.{Bool, ◌&&◌, ◌||◌, false, not, true}
use mathlib.Core.List.Memᴰ
use mathlib.Core.List.{List, Memᴰ, [], ◌∷◌}
use lib.Dec.{T, T_not, eqb, eqb_refl, eqb→eq}
use mir.Facts.{and_yes, or_yes, yes_and}
use Rattle.meaning.specs.Lists.{every}
use Rattle.meaning.specs.Counting.{Distinct}
use Rattle.meaning.proofs.Tests.{or_left, or_right}

-- two lists of numbers are the same
unfoldable pub same : List ℕ → List ℕ → Bool
same [] [] = true
same [] (y ∷ ys) = false
same (x ∷ xs) [] = false
same (x ∷ xs) (y ∷ ys) = eqb x y && same xs ys

pub same_out : (xs ys : List ℕ) → T (same xs ys) → xs ≡ ys
unfolding same
same_out [] [] t = refl
same_out [] (y ∷ ys) t = absurd t
same_out (x ∷ xs) [] t = absurd t
same_out (x ∷ xs) (y ∷ ys) t =
    let (a, b) = and_yes (eqb x y) (same xs ys) t in
    ap₂ ◌∷◌ (eqb→eq x y a) (same_out xs ys b)

pub same_refl : (xs : List ℕ) → T (same xs xs)
unfolding same
same_refl [] = tt
same_refl (x ∷ xs) = yes_and (eqb x x) (same xs xs) (eqb_refl x) (same_refl xs)

module _ {A : Type 0} (eq : A → A → Bool) where
  -- x is a member
  unfoldable pub member : A → List A → Bool
  member x [] = false
  member x (y ∷ ys) = eq x y || member x ys

  -- no member twice
  unfoldable pub no_repeats : List A → Bool
  unfolding member
  no_repeats [] = true
  no_repeats (x ∷ xs) = not (member x xs) && no_repeats xs

  pub member_out : ((x y : A) → T (eq x y) → x ≡ y) → (x : A) (ys : List A) → T (member x ys) → Memᴰ x ys
  unfolding member
  member_out eq-out x [] t = absurd t
  member_out eq-out x (y ∷ ys) t =
      elim (or_yes (eq x y) (member x ys) t)
      [ inl a ↦ Memᴰ.head (eq-out x y a) | inr b ↦ Memᴰ.tail (member_out eq-out x ys b) ]

  module _ (eq_refl : (x : A) → T (eq x x)) where
    member_in : (x : A) (ys : List A) → Memᴰ x ys → T (member x ys)
    unfolding member
    member_in x [] m = absurd (Memᴰ.not-nil m)
    member_in x (y ∷ ys) m =
        elim (Memᴰ.cases_cons m) [
          | inl e ↦ or_left (eq x y) (member x ys) (subst (λ (z : A). T (eq x z)) e (eq_refl x))
          | inr b ↦ or_right (eq x y) (member x ys) (member_in x ys b)
        ]

    pub no_repeats_out : (xs : List A) → T (no_repeats xs) → Distinct xs
    unfolding no_repeats Distinct
    no_repeats_out [] t = tt
    no_repeats_out (x ∷ xs) t =
        let (a, b) = and_yes (not (member x xs)) (no_repeats xs) t in
        (λ m. T_not (member x xs) a (member_in x xs m), no_repeats_out xs b)

-- each member passes
pub every_out : {A : Type 0} (f : A → Bool) (xs : List A) → T (every f xs) → (x : A) → Memᴰ x xs → T (f x)
unfolding every
every_out f [] t x m = absurd (Memᴰ.not-nil m)
every_out f (y ∷ xs) t x m =
    let (a, b) = and_yes (f y) (every f xs) t in
    elim (Memᴰ.cases_cons m) [ inl e ↦ subst (λ z. T (f z)) (sym e) a | inr b' ↦ every_out f xs b x b' ]
