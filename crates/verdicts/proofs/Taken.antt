-- The knapsack that a kind number is taken for, and what a job of it keeps that none of refusals 3 to 5 meets.
-- Assumes nothing.
use mathlib.Core.Path.{◌≡◌, refl, sym, subst, ◌∙◌}
use mathlib.Core.Option.{some, some-injective}
use Prim.Native.Nat.{ℕ, zero, suc, ◌/◌}
use native.Mathlib.Omega.{arith}
use borrow.Author.Tests.{eq-eqb, ne_eqb}
use mathlib.Core.List.{List}
use lib.ListN.{length}
use Rattle.meaning.specs.Bytes.{numbers_in}
use Rattle.meaning.specs.Lists.{if}
use Rattle.meaning.specs.Job.{Job, Knapsack, labels, once, limited, free}
use Rattle.meaning.specs.Refusals.{has_copies}
use Rattle.meaning.specs.Certificates.{certificate_cells, certified_knapsack}
use Rattle.meaning.proofs.Numbers.{numbers_long}
use Rattle.meaning.proofs.Valid.{Valid}
use Rattle.meaning.proofs.Certified.{certified_valid}
use Rattle.verdicts.specs.Asked.{CellsRead, knapsack_in}

-- ---- by the number

module _ (kind : ℕ) where
  pub taken_once : kind ≡ 1 → knapsack_in kind ≡ once
  unfolding knapsack_in if
  taken_once e = rw (eq-eqb kind 1 e)

  pub taken_free : kind ≡ 3 → knapsack_in kind ≡ free
  unfolding knapsack_in if
  taken_free e = rw (ne_eqb kind 1 (λ one. absurd (omega (arith, e, one))), eq-eqb kind 3 e)

  pub taken_limited : ¬ (kind ≡ 1) → ¬ (kind ≡ 3) → knapsack_in kind ≡ limited
  unfolding knapsack_in if
  taken_limited not-1 not-3 = rw (ne_eqb kind 1 not-1, ne_eqb kind 3 not-3)

-- a kind number that has certificates is taken for its knapsack
pub taken_as : (kind : ℕ) (k : Knapsack) → certified_knapsack kind ≡ some k → knapsack_in kind ≡ k
unfolding certified_knapsack
taken_as zero k e = let z : ◌≡◌ {A = ℕ} 0 1 = cc in absurd (omega arith)
taken_as (suc zero) k e = taken_once 1 refl ∙ some-injective once k e
taken_as (suc (suc zero)) k e = taken_limited 2 (λ h. absurd (omega arith)) (λ h. absurd (omega arith)) ∙ some-injective limited k e
taken_as (suc (suc (suc zero))) k e = taken_free 3 refl ∙ some-injective free k e
taken_as (suc (suc (suc (suc n)))) k e = let z : ◌≡◌ {A = ℕ} 0 1 = cc in absurd (omega arith)

-- ---- a job that isn't refused

pub valid_read : {k : Knapsack} {j : Job} {cells : List ℕ} → CellsRead k j cells → Valid k j
valid_read r = certified_valid r.has_certificates

-- where copies are used, each label has a number of them
pub copied : {k : Knapsack} {j : Job} → Valid k j → k ≡ limited → length j.copies ≡ labels j
unfolding has_copies if
copied {k} {j} v e = subst (λ (s : Knapsack). length j.copies ≡ if (has_copies s) (labels j) 0) e v.copied

-- ---- the cells that were read are as many as there are to be

pub counted : {k : Knapsack} {j : Job} (cells : List ℕ) → CellsRead k j (numbers_in cells) → length cells / 4 ≡ certificate_cells k j
counted cells r = sym (numbers_long cells) ∙ r.long
