-- The rules of kinds 1 to 3, by the kind's number.
-- Assumes nothing.
use mathlib.Core.Path.{◌≡◌, refl}
use mathlib.Core.Option.{some}
use Prim.Native.Nat.{ℕ, zero, suc, ◌≤◌}
use native.Mathlib.Omega.{arith}
use mathlib.Core.Bool.{true, false}
use lib.Dec.{eqb}
use Rattle.meaning.specs.Job.{Knapsack, once, limited, free, packing, kind_of, all_kinds}
use Rattle.meaning.specs.Bounds.{most_labels, most_budget}
use Rattle.meaning.specs.Refusals.{rules_of, knapsack_rules, has_copies, least_value}
use Rattle.meaning.proofs.Laws.{number_of}
use Rattle.rules.specs.declared.WeightRule.TheVariants.{Positive}
use Rattle.rules.specs.Ruling.{rules_from, rule_from}

-- the least value, as it was set for a kind number
pub data Floor (kind floor : ℕ) : Type 0 where
  one_for_3 : kind ≡ 3 → floor ≡ 1 → Floor kind floor
  none_else : ¬ (kind ≡ 3) → floor ≡ 0 → Floor kind floor

pub knapsack_as : (k : Knapsack) (kind floor : ℕ) → kind ≡ number_of (packing k) → Floor kind floor
    → rules_from (record { valued = true; copied = eqb kind 2; labels = most_labels; budget = most_budget; weights = Positive; floor = floor }) false
    ≡ rules_of (packing k)
unfolding rules_from rule_from rules_of knapsack_rules number_of has_copies least_value
knapsack_as once kind floor e (one_for_3 a b) = absurd (omega arith)
knapsack_as once kind floor e (none_else a b) = rw (e, b)
knapsack_as limited kind floor e (one_for_3 a b) = absurd (omega arith)
knapsack_as limited kind floor e (none_else a b) = rw (e, b)
knapsack_as free kind floor e (one_for_3 a b) = rw (e, b)
knapsack_as free kind floor e (none_else a b) = absurd (a e)

-- the knapsack of a kind number
pub record KnapsackOf (kind : ℕ) : Type 0 where
  pub knapsack : Knapsack
  pub of_kind : kind_of kind ≡ some (packing knapsack)

-- each of 1 to 3 has one
pub knapsack_of : (kind : ℕ) → 1 ≤ kind → kind ≤ 3 → KnapsackOf kind
unfolding kind_of all_kinds
knapsack_of zero h l = absurd (omega arith)
knapsack_of (suc zero) h l = record { knapsack = once; of_kind = refl }
knapsack_of (suc (suc zero)) h l = record { knapsack = limited; of_kind = refl }
knapsack_of (suc (suc (suc zero))) h l = record { knapsack = free; of_kind = refl }
knapsack_of (suc (suc (suc (suc kind)))) h l = absurd (omega arith)
