-- One count over a whole row, budget by budget, and the code's test without a sum.
-- Assumes nothing.
use Rattle.std.proofs.Common.{◌≡◌, ℕ, ◌+◌, ◌%◌, ◌<◌, ◌≤◌, Bool, true, false, ◌||◌, ltb, List, sym, refl, ap, ◌∙◌, subst, ap₂, add-zero, arith, below_more, le-ltb, lt-ltb}
use native.Mathlib.Decide.{dec_lt}
use mathlib.Core.Bool.{or-true, or-false}
use mir.Val.{bool_byte}
use Rattle.meaning.specs.Lists.{at}
use Rattle.faults.specs.Columns.{Finds, LowAt, HighAt}
use Rattle.faults.proofs.Finding.{finds_low, finds_high}

-- ---- the code's test without a sum

-- a claim less a value wraps only where the claim is below the value
pub below_sum : (claim other v rest : ℕ) → claim < 4_294_967_296 → rest < 4_294_967_296 → (rest + v) % 4_294_967_296 ≡ claim
    → (ltb claim v || ltb rest other) ≡ ltb claim (other + v)
below_sum claim other v rest claim-fits rest-fits wraps =
    elim (dec_lt claim v) [
      | yes small ↦ rw (lt-ltb claim v small, lt-ltb claim (other + v) (omega arith))
      | no large ↦
          let difference : rest + v ≡ claim = omega (arith, wraps) in
          rw (le-ltb claim v (omega arith)) (elim (dec_lt rest other) [
            | yes below ↦ rw (lt-ltb rest other below, lt-ltb claim (other + v) (omega arith))
            | no above ↦ rw (le-ltb rest other (omega arith), le-ltb claim (other + v) (omega arith))
          ])
    ]

-- ---- how many are too low, as the code counts them

-- whether some are, once one more was asked about
counted_low : (low : ℕ) (below : Bool) → (ltb 0 low || below) ≡ ltb 0 (low + bool_byte below)
counted_low low true = or-true (ltb 0 low) ∙ sym (lt-ltb 0 (low + 1) (omega arith))
counted_low low false = or-false (ltb 0 low) ∙ ap (ltb 0) (sym (add-zero low))

at_most_one : (below : Bool) → bool_byte below ≤ 1
at_most_one true = omega arith
at_most_one false = omega arith

-- of the first c at most c are, and what is told of some holds
pub record CountedLow (Tell : Bool → ℕ → Type 0) (low c : ℕ) : Type 0 where
  pub most : low ≤ c
  pub told : Tell (ltb 0 low) c

pub count_next : {Tell : Bool → ℕ → Type 0} (low c one : ℕ) (below : Bool) → one ≡ bool_byte below
    → CountedLow Tell low c → Tell (ltb 0 low || below) (c + 1) → CountedLow Tell (low + one) (c + 1)
count_next {Tell} low c one below one_is l t = record {
  most = omega (arith, l.most, at_most_one below);
  told = rw one_is (subst (λ (b : Bool). Tell b (c + 1)) (counted_low low below) t);
}

-- ---- budget by budget

module _ (cells : List ℕ) (prior row far gain : ℕ) where
  -- what is told of the first c budgets
  abbrev pub FoundSoFar : Bool → ℕ → Type 0
  FoundSoFar low c = Finds low (LowAt cells prior row c far gain) (HighAt cells prior row c far gain)

  module _ (c : ℕ) where
    -- what stands at the budget whose turn it is
    abbrev claim_at : ℕ
    claim_at = at cells (row + (c + far))

    abbrev other_at : ℕ
    other_at = at cells (prior + c)

    -- one budget more
    one_more : (low : Bool) → FoundSoFar low c → FoundSoFar (low || ltb claim_at (other_at + gain)) (c + 1)
    one_more true t = let l = t.broken refl in finds_low (record { from = l.from; inside = omega (arith, l.inside); below = l.below })
    one_more false t =
        elim (dec_lt claim_at (other_at + gain)) [
          | yes below ↦ rw (lt-ltb claim_at (other_at + gain) below) (finds_low (record { from = c; inside = omega arith; below = below }))
          | no above ↦
              rw (le-ltb claim_at (other_at + gain) (omega arith))
              (finds_high (record {
                all = below_more (λ (m : ℕ). at cells (prior + m) + gain ≤ at cells (row + (m + far))) c (t.kept refl).all (omega arith);
              }))
        ]

    pub pass_next : (low below : Bool) (claim other : ℕ) → below ≡ ltb claim (other + gain)
        → claim ≡ at cells (row + far + c) → other ≡ at cells (prior + c) → FoundSoFar low c → FoundSoFar (low || below) (c + 1)
    pass_next low below claim other below_is claim-is other-is t =
        let place : row + far + c ≡ row + (c + far) = omega arith in
        let same : below ≡ ltb claim_at (other_at + gain) =
        below_is ∙ ap₂ (λ (x y : ℕ). ltb x (y + gain)) (claim-is ∙ ap (at cells) place) other-is in
        rw same (one_more low t)
