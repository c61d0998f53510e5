-- What the picks weigh, or are worth, label after label.
-- Assumes nothing.
use mathlib.Core.Path.{◌≡◌, sym, ap, ap₂, ◌∙◌}
use Prim.Native.Nat.{ℕ, zero-le, ◌+◌, ◌*◌, ◌≤◌, ◌<◌}
use native.Mathlib.Nat.{mul-le-mul}
use native.Mathlib.Numerals.{add-one}
use native.Mathlib.Omega.{arith}
use mathlib.Core.List.{List}
use lib.ListN.{length, take}
use lib.Seq.{length-take-le, take-suc}
use Rattle.meaning.specs.Lists.{at, total}
use Rattle.meaning.specs.Bounds.{most_labels}
use Rattle.meaning.proofs.Totals.{total_none, total_with}
use Rattle.verdicts.specs.Asked.{FewPicks}

-- the greatest number of 32 bits times that of 16: what one label adds at most
abbrev pub most : ℕ
most = 281_470_681_677_825

-- the sum over the first i labels
pub record SumSoFar (each picks : List ℕ) (i sum : ℕ) : Type 0 where
  pub is : sum ≡ total each (take i picks)
  pub bounded : sum ≤ i * most

module _ (each picks : List ℕ) where
  pub sum_none : SumSoFar each picks 0 0
  sum_none = record { is = sym (total_none each); bounded = zero-le }

  -- with what label i adds the sum stays within 64 bits, and is that of i+1 labels
  pub record NextSum (i sum part : ℕ) : Type 0 where
    pub sum_fits : sum + part < 18_446_744_073_709_551_616
    pub next : SumSoFar each picks (i + 1) (sum + part)

  pub sum_next : FewPicks each picks → (i sum x count : ℕ) → i < length picks → SumSoFar each picks i sum
      → x ≡ at each i → x ≤ 4_294_967_295 → count ≡ at picks i → NextSum i sum (x * count)
  unfolding most_labels
  sum_next ok i sum x count h s x_is x_Fits count_is =
      let few : count ≤ 65_535 = omega (arith, ok.small i h) in
      let bounded : x * count ≤ most = mul-le-mul x_Fits few in
      record {
        sum_fits = omega (arith, s.bounded, ok.few);
        next = record {
          is =
              rw add-one
              (ap₂ (λ (a b : ℕ). a + b) s.is (ap₂ (λ (a b : ℕ). a * b) x_is count_is)
              ∙ sym (ap (total each) (take-suc picks i 0 h) ∙ total_with each (take i picks) (at picks i) i (length-take-le i picks (omega arith))));
          bounded = omega (arith, s.bounded);
        };
      }
