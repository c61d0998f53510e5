-- Lists over the numbers 0, 1, .. n-1: their length, what stands at a place, and who is a member.
-- Assumes nothing.
use mathlib.Core.Path.{◌≡◌, refl, ap, ◌∙◌}
use mathlib.Core.Logic.{inl, inr}
use Prim.Native.Nat.{ℕ, zero, suc, ◌<◌}
use native.Mathlib.Decide.{dec_le, dec_lt}
use native.Mathlib.Nat.{le_antisymm, not-suc-le-zero, le_of_suc-le-suc}
use native.Mathlib.Omega.{arith}
use mathlib.Core.List.Memᴰ
use mathlib.Core.List.{List, [], ◌∷◌, map, Memᴰ}
use mathlib.Core.List.{map-append}
use lib.ListN.{length, length-append, length-map, get_or-append}
use lib.Seq.{get_or_at}
use Rattle.meaning.specs.Lists.{at, up_to}

pub up_to_length : (n : ℕ) → length (up_to n) ≡ n
unfolding up_to
up_to_length zero = refl
up_to_length (suc n) = length-append (up_to n) (n ∷ []) ∙ omega (arith, up_to_length n)

-- ---- a list made of a function

pub made_length : (f : ℕ → ℕ) (n : ℕ) → length (map f (up_to n)) ≡ n
made_length f n = length-map (up_to n) f ∙ up_to_length n

pub made_at : (f : ℕ → ℕ) (n m : ℕ) → m < n → at (map f (up_to n)) m ≡ f m
unfolding up_to
made_at f zero m h = absurd (not-suc-le-zero h)
made_at f (suc n) m h =
    ap (λ (l : List ℕ). at l m) (map-append f (up_to n) (n ∷ []))
    ∙ elim (dec_le n m) [
      | yes ge ↦
          let e : n ≡ m = le_antisymm ge (le_of_suc-le-suc h) in
          get_or_at (map f (up_to n)) (f n) [] 0 m (made_length f n ∙ e) ∙ ap f e
      | no lt ↦ get_or-append (map f (up_to n)) (f n ∷ []) 0 m (omega (arith, made_length f n)) ∙ made_at f n m (omega arith)
    ]

-- ---- members

pub up_to_out : (n i : ℕ) → Memᴰ i (up_to n) → i < n
unfolding up_to
up_to_out zero i m = absurd (Memᴰ.not-nil m)
up_to_out (suc n) i m =
    elim (Memᴰ.append_cases (up_to n) m) [
      | inl h ↦ omega (arith, up_to_out n i h)
      | inr h ↦ omega (arith, Memᴰ.eq_of_singleton h)
    ]

pub up_to_in : (n i : ℕ) → i < n → Memᴰ i (up_to n)
unfolding up_to
up_to_in zero i h = absurd (not-suc-le-zero h)
up_to_in (suc n) i h =
    elim (dec_lt i n) [
      | yes k ↦ Memᴰ.append_left (n ∷ []) (up_to_in n i k)
      | no k ↦ Memᴰ.append_right (up_to n) (Memᴰ.head (omega arith))
    ]
