-- Kind 7: the labels stand in one order, and each has a rank in it.
-- Assumes nothing.
use mathlib.Core.Path.{◌∙◌, ◌≡◌, sym}
use mathlib.Core.Logic.{◌⊎◌, inl, inr}
use Prim.Native.Nat.{◌<◌, ◌≤◌, suc, zero, ℕ}
use native.Mathlib.Decide.{dec_lt, ℕ_discrete}
use native.Mathlib.Nat.{le_of_eq}
use native.Mathlib.Omega.{arith}
use mathlib.Core.Bool.{◌&&◌, true}
use mathlib.Core.List.Memᴰ
use mathlib.Core.List.{List, Memᴰ, [], ◌∷◌, map}
use lib.Dec.{T, eqb, ltb}
use lib.ListN.{length-map}
use mir.Facts.{and_yes, eqb_yes, ltb_yes, or_yes, yes_and, yes_eqb, yes_ltb}
use Rattle.meaning.specs.Lists.{up_to, tally}
use Rattle.meaning.specs.Counting.{Distinct}
use Rattle.meaning.specs.Job.{Job, labels}
use Rattle.meaning.specs.Shares.{precedes, rank_of, remainder_of}
use Rattle.meaning.proofs.UpTo.{up_to_in, up_to_length, up_to_out}
use Rattle.meaning.proofs.Tests.{or_left, or_right}
use Rattle.meaning.proofs.Counting.{distinct_append, distinct_map, fills}
use Rattle.meaning.proofs.Tally.{all_tally, tally_below, tally_lt, tally_map, tally_same}

-- 0, 1, .. n-1 has no member twice
pub up_to_distinct : (n : ℕ) → Distinct (up_to n)
unfolding up_to Distinct
up_to_distinct zero = tt
up_to_distinct (suc n) =
    distinct_append (up_to n) (n ∷ []) (up_to_distinct n) (λ m. Memᴰ.not-nil m, tt)
    (λ a h k. omega (arith, up_to_out n a h, Memᴰ.eq_of_singleton k))

-- ---- the order of the labels: the three laws that `precedes` must have, and nothing below looks at its text

module _ (j : Job) where
  -- what the test says
  pub precedes_out : (i m : ℕ) → T (precedes j i m) → (remainder_of j m < remainder_of j i) ⊎ ((remainder_of j i ≡ remainder_of j m) × (i < m))
  unfolding precedes
  precedes_out i m t =
      elim (or_yes (ltb (remainder_of j m) (remainder_of j i)) (eqb (remainder_of j i) (remainder_of j m) && ltb i m) t) [
        | inl a ↦ inl (ltb_yes a)
        | inr b ↦ let (e, l) = and_yes (eqb (remainder_of j i) (remainder_of j m)) (ltb i m) b in inr (eqb_yes e, ltb_yes l)
      ]

  -- and back
  pub precedes_in : (i m : ℕ) → (remainder_of j m < remainder_of j i) ⊎ ((remainder_of j i ≡ remainder_of j m) × (i < m)) → T (precedes j i m)
  unfolding precedes
  precedes_in i m (inl a) = or_left (ltb (remainder_of j m) (remainder_of j i)) _ (yes_ltb a)
  precedes_in i m (inr b) =
      or_right (ltb (remainder_of j m) (remainder_of j i)) (eqb (remainder_of j i) (remainder_of j m) && ltb i m)
      (yes_and (eqb (remainder_of j i) (remainder_of j m)) (ltb i m) (yes_eqb b.0) (yes_ltb b.1))

  -- first law: no label goes before itself
  pub not_self : (i : ℕ) → T (precedes j i i) → ⊥
  not_self i t = elim (precedes_out i i t) [ inl a ↦ omega arith | inr b ↦ omega arith ]

  -- second law: who goes before one that goes before another goes before that other
  pub through : (a b c : ℕ) → T (precedes j a b) → T (precedes j b c) → T (precedes j a c)
  through a b c s t = precedes_in a c (join (precedes_out a b s) (precedes_out b c t))
    where
      join : (remainder_of j b < remainder_of j a) ⊎ ((remainder_of j a ≡ remainder_of j b) × (a < b))
          → (remainder_of j c < remainder_of j b) ⊎ ((remainder_of j b ≡ remainder_of j c) × (b < c))
          → (remainder_of j c < remainder_of j a) ⊎ ((remainder_of j a ≡ remainder_of j c) × (a < c))
      join (inl x) (inl y) = inl (omega arith)
      join (inl x) (inr y) = inl (omega arith)
      join (inr x) (inl y) = inl (omega arith)
      join (inr x) (inr y) = inr (x.0 ∙ y.0, omega arith)

  -- third law: of two labels one goes before the other
  pub one_or_other : (a b : ℕ) → (a ≡ b → ⊥) → T (precedes j a b) ⊎ T (precedes j b a)
  one_or_other a b ne =
      elim (dec_lt (remainder_of j b) (remainder_of j a)) [
        | yes h ↦ inl (precedes_in a b (inl h))
        | no h ↦ elim (dec_lt (remainder_of j a) (remainder_of j b)) [
          | yes k ↦ inr (precedes_in b a (inl k))
          | no k ↦ elim (dec_lt a b) [
            | yes l ↦ inl (precedes_in a b (inr (omega arith, l)))
            | no l ↦ inr (precedes_in b a (inr (omega arith, omega arith)))
          ]
        ]
      ]

  -- ---- ranks: a label that goes before another has a lower one, so that every number below n is the rank of one label

  abbrev ls : List ℕ
  ls = up_to (labels j)

  -- a label that goes before another has a lower rank
  pub rank_up : (a b : ℕ) → a < labels j → T (precedes j a b) → rank_of j a < rank_of j b
  unfolding rank_of
  rank_up a b h t = tally_lt (λ i. precedes j i a) (λ i. precedes j i b) ls (λ i p. through i a b p t) a (up_to_in (labels j) a h) t (not_self a)

  -- a rank is below n
  pub rank_small : (a : ℕ) → a < labels j → rank_of j a < labels j
  unfolding rank_of
  rank_small a h =
      let not-all = tally_lt (λ i. precedes j i a) (λ i. true) ls (λ i p. tt) a (up_to_in (labels j) a h) tt (not_self a) in
      omega (arith, not-all, all_tally ls, up_to_length (labels j))

  -- two labels never share a rank
  pub rank_one : (a b : ℕ) → a < labels j → b < labels j → rank_of j a ≡ rank_of j b → a ≡ b
  rank_one a b ha hb e =
      elim (ℕ_discrete a b) [
        | yes same ↦ same
        | no ne ↦ elim (one_or_other a b ne) [ inl t ↦ absurd (omega (arith, rank_up a b ha t)) | inr t ↦ absurd (omega (arith, rank_up b a hb t)) ]
      ]

  ranks : List ℕ
  ranks = map (rank_of j) ls

  ranks_distinct : Distinct ranks
  unfolding ranks
  ranks_distinct =
      distinct_map (rank_of j) ls (λ a b ha hb. rank_one a b (up_to_out (labels j) a ha) (up_to_out (labels j) b hb)) (up_to_distinct (labels j))

  ranks_out : (t : ℕ) → Memᴰ t ranks → Memᴰ t ls
  unfolding ranks
  ranks_out t m = let (a, h, e) = Memᴰ.of_map (rank_of j) ls m in up_to_in (labels j) t (omega (arith, rank_small a (up_to_out (labels j) a h)))

  ranks_in : (t : ℕ) → Memᴰ t ls → Memᴰ t ranks
  unfolding ranks
  ranks_in = fills ranks ls ranks_distinct ranks_out (le_of_eq (sym (length-map ls (rank_of j))))

  -- so just s labels have a rank below s
  pub served : (s : ℕ) → s ≤ labels j → tally (λ i. ltb (rank_of j i) s) ls ≡ s
  unfolding ranks
  served s h =
      sym (tally_map (λ t. ltb t s) (rank_of j) ls)
      ∙ tally_same (λ t. ltb t s) (map (rank_of j) ls) ls ranks_distinct (up_to_distinct (labels j)) ranks_out ranks_in
      ∙ tally_below (labels j) s ∙ omega arith
