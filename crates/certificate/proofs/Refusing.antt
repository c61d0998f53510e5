-- What refusals 2 to 5 come to, by the kind's number and by its knapsack.
-- Assumes nothing.
use mathlib.Core.Path.{◌≡◌, refl, sym, ap, subst, ◌∙◌}
use mathlib.Core.Option.{Option, none, some}
use Prim.Native.Nat.{ℕ, zero, suc, ◌≤◌, ◌<◌}
use native.Mathlib.Decide.{dec_lt}
use native.Mathlib.Omega.{arith}
use Rattle.meaning.specs.Job.{Job, Knapsack, once, limited, free, packing}
use Rattle.meaning.specs.Refusals.{job_refusal, rules_of}
use Rattle.meaning.specs.Certificates.{HasCertificates, certified_knapsack}
use Rattle.verdicts.specs.Asked.{knapsack_in}
use Rattle.verdicts.proofs.Taken.{taken_as}
use Rattle.certificate.specs.Refusing.{refusal_for, certified_refusal}

-- ---- by the kind's number

-- kinds 1 to 3 have certificates
pub certified_number : (n : ℕ) → 1 ≤ n → n ≤ 3 → (k : Knapsack) × (certified_knapsack n ≡ some k)
unfolding certified_knapsack
certified_number zero h l = absurd (omega arith)
certified_number (suc zero) h l = (once, refl)
certified_number (suc (suc zero)) h l = (limited, refl)
certified_number (suc (suc (suc zero))) h l = (free, refl)
certified_number (suc (suc (suc (suc n)))) h l = absurd (omega arith)

-- and no other
none_below_1 : (n : ℕ) → n < 1 → certified_knapsack n ≡ none
unfolding certified_knapsack
none_below_1 zero h = refl
none_below_1 (suc n) h = absurd (omega arith)

none_above_3 : (n : ℕ) → 3 < n → certified_knapsack n ≡ none
unfolding certified_knapsack
none_above_3 (suc (suc (suc (suc n)))) h = refl
none_above_3 zero h = absurd (omega arith)
none_above_3 (suc zero) h = absurd (omega arith)
none_above_3 (suc (suc zero)) h = absurd (omega arith)
none_above_3 (suc (suc (suc zero))) h = absurd (omega arith)

-- so the number of one that has is 1 to 3
none≢some : {k : Knapsack} → ◌≡◌ {A = Option Knapsack} none (some k) → ⊥
none≢some e = let z : ◌≡◌ {A = ℕ} 0 1 = cc in omega arith

pub number_within : (n : ℕ) (k : Knapsack) → certified_knapsack n ≡ some k → (1 ≤ n) × (n ≤ 3)
number_within n k e = (
  elim (dec_lt n 1) [ yes h ↦ absurd (none≢some (sym (none_below_1 n h) ∙ e)) | no h ↦ omega arith ],
  elim (dec_lt 3 n) [ yes h ↦ absurd (none≢some (sym (none_above_3 n h) ∙ e)) | no h ↦ omega arith ],
)

-- ---- the refusal

module _ (j : Job) where
  by_knapsack : (o : Option Knapsack) → certified_knapsack j.kind_number ≡ o → certified_refusal j ≡ refusal_for o j
  unfolding certified_refusal
  by_knapsack o e = ap (λ (x : Option Knapsack). refusal_for x j) e

  -- 2: another kind
  pub kind_0 : j.kind_number < 1 → certified_refusal j ≡ 2
  unfolding refusal_for
  kind_0 h = by_knapsack none (none_below_1 j.kind_number h)

  pub kind_4 : 3 < j.kind_number → certified_refusal j ≡ 2
  unfolding refusal_for
  kind_4 h = by_knapsack none (none_above_3 j.kind_number h)

  -- 3 to 5: a knapsack by its rules
  pub by_rules : (k : Knapsack) → certified_knapsack j.kind_number ≡ some k → certified_refusal j ≡ job_refusal (rules_of (packing k)) j 0
  unfolding refusal_for
  by_rules k e = by_knapsack (some k) e

  -- none: the job has certificates, of the knapsack that its kind is taken for
  pub not_refused : certified_refusal j ≡ 0 → HasCertificates (knapsack_in j.kind_number) j
  unfolding certified_refusal refusal_for
  not_refused ok = go (certified_knapsack j.kind_number) refl ok
    where
      go : (o : Option Knapsack) → certified_knapsack j.kind_number ≡ o → refusal_for o j ≡ 0 → HasCertificates (knapsack_in j.kind_number) j
      go none e h = absurd (omega arith)
      go (some k) e h =
          subst (λ (s : Knapsack). HasCertificates s j) (sym (taken_as j.kind_number k e)) (record { of_knapsack = e; not_refused = h })
