-- What was written at a place: nothing, four bytes, one piece after another, and from place 0 on.
-- Assumes nothing.
use Prim.Native.Nat.{ℕ, ◌+◌, ◌≤◌}
use mathlib.Core.Path.{◌≡◌, sym, ap, ◌∙◌}
use mathlib.Core.List.{List, [], ◌++◌, append_assoc}
use native.Mathlib.Omega.{arith}
use lib.ListN.{length, take, drop, length-append, take-append-drop}
use lib.Seq.{length-take-le, take_at, drop_at, drop-drop}
use Rattle.meaning.specs.Slices.{Holds}
use Rattle.numbers.specs.Placed.{HoldsAt}

-- nothing written
pub nothing : (p : ℕ) (l : List ℕ) → HoldsAt p [] l l
unfolding HoldsAt
nothing p l = sym (take-append-drop p l)

module _ (p : ℕ) (a before mid : List ℕ) (fits : p + length a ≤ length before) (first : HoldsAt p a before mid) where
  front : length (take p before ++ a) ≡ p + length a
  front = length-append (take p before) a ∙ omega (arith, length-take-le p before (omega arith))

  split : mid ≡ (take p before ++ a) ++ drop (length a) (drop p before)
  unfolding HoldsAt
  split = first ∙ sym (append_assoc (take p before) a (drop (length a) (drop p before)))

  kept : take (p + length a) mid ≡ take p before ++ a
  kept = ap (take (p + length a)) split ∙ take_at (take p before ++ a) (drop (length a) (drop p before)) (p + length a) front

  past : drop (p + length a) mid ≡ drop (length a) (drop p before)
  past = ap (drop (p + length a)) split ∙ drop_at (take p before ++ a) (drop (length a) (drop p before)) (p + length a) front

  further : (b : List ℕ) → drop (length b) (drop (p + length a) mid) ≡ drop (length (a ++ b)) (drop p before)
  further b =
      ap (drop (length b)) past ∙ drop-drop (length b) (length a) (drop p before)
      ∙ ap (λ (n : ℕ). drop n (drop p before)) (sym (length-append a b))

  -- a piece after a piece is both as one
  pub joined : (b after : List ℕ) → HoldsAt (p + length a) b mid after → HoldsAt p (a ++ b) before after
  unfolding HoldsAt
  joined b after second = second ∙ rw (kept, further b) (simp append_assoc)

-- from place 0 on it is what `meaning` says of a lent slice
pub from_start : (new before after : List ℕ) → HoldsAt 0 new before after → Holds new before after
unfolding HoldsAt Holds
from_start new before after h = h
