-- Kinds 4 and 8: what is weighed and what is reached with one label more, and that total 0 always is.
-- Assumes nothing.
use mathlib.Core.Path.{◌≡◌, sym, ap, ◌∙◌, refl, subst}
use mathlib.Core.Logic.{◌⊎◌, inl, inr}
use Prim.Native.Nat.{ℕ, zero, suc, ◌+◌, ◌-◌, ◌*◌, ◌≤◌, zero-le}
use native.Mathlib.Nat.{le_refl, le_of_eq, mul-zero, mul-one, not-suc-le-zero}
use native.Mathlib.Decide.{dec_le}
use native.Mathlib.Omega.{arith}
use mathlib.Core.List.{List, [], ◌∷◌, ◌++◌}
use lib.ListN.{take}
use Rattle.meaning.specs.Lists.{at, total}
use Rattle.meaning.specs.Job.{Job, once}
use Rattle.meaning.specs.Knapsacks.{MayPick, Selection, Fits}
use Rattle.meaning.specs.Sums.{Weighs, Reached}
use Rattle.meaning.proofs.Totals.{empty_of, total_cut, total_none, total_with}
use Rattle.meaning.proofs.Steps.{fits_more, front_fits}

-- a total is reached by any selection that weighs it
pub reached_as : {j : Job} {i t : ℕ} (p : List ℕ) → Selection once j i p → total j.weights p ≡ t → Reached j i t
reached_as p s e = record { picks = p; weighs = record { selection = s; weight = e } }

module _ (j : Job) (i t : ℕ) where
  abbrev w : ℕ
  w = at j.weights i

  -- ---- a selection with x of label i, x being 0 or 1

  pub weighs_more : (x : ℕ) (p : List ℕ) → x ≤ 1 → Weighs j i t p → Weighs j (suc i) (t + w * x) (p ++ (x ∷ []))
  unfolding MayPick
  weighs_more x p may d =
      let f : Fits once j i (t + w * x - w * x) p = record { selection = d.selection; weight = omega (arith, d.weight) } in
      record {
        selection = (fits_more once j i (t + w * x) p x may (omega arith) f).selection;
        weight = total_with j.weights p x i d.selection.one_each ∙ omega (arith, d.weight);
      }

  -- and without them
  pub weighs_less : (x : ℕ) (q : List ℕ) → at q i ≡ x → Weighs j (suc i) t q → (w * x ≤ t) × Weighs j i (t - w * x) (take i q)
  unfolding MayPick
  weighs_less x q e d =
      let cut : total j.weights q ≡ total j.weights (take i q) + w * x = rw e at (total_cut j.weights q i d.selection.one_each) in
      let (light, front) = front_fits once j i t q (record { selection = d.selection; weight = le_of_eq d.weight }) in
      (omega (arith, d.weight), record { selection = front.selection; weight = omega (arith, d.weight) })

  -- ---- what was reached, and that plus the label's weight

  -- without the new label
  pub reached_without : Reached j i t → Reached j (suc i) t
  reached_without r =
      subst (Reached j (suc i)) (omega (arith, mul-zero w))
      (record { picks = r.picks ++ (0 ∷ []); weighs = weighs_more 0 r.picks zero-le r.weighs })

  -- with it
  pub reached_with : Reached j i t → Reached j (suc i) (t + w)
  reached_with r =
      subst (Reached j (suc i)) (omega (arith, mul-one w))
      (record { picks = r.picks ++ (1 ∷ []); weighs = weighs_more 1 r.picks (le_refl 1) r.weighs })

  -- and there is no other way
  pub reached_either : Reached j (suc i) t → Reached j i t ⊎ ((w ≤ t) × Reached j i (t - w))
  unfolding MayPick
  reached_either r = go (at r.picks i) refl (r.weighs.selection.allowed i (le_refl (suc i)))
    where
      go : (x : ℕ) → at r.picks i ≡ x → x ≤ 1 → Reached j i t ⊎ ((w ≤ t) × Reached j i (t - w))
      go zero e may =
          let (light, d) = weighs_less 0 r.picks e r.weighs in
          inl (subst (Reached j i) (omega (arith, mul-zero w)) (record { picks = take i r.picks; weighs = d }))
      go (suc zero) e may =
          let (light, d) = weighs_less 1 r.picks e r.weighs in
          let one : w * 1 ≡ w = mul-one w in
          inr (omega arith, subst (Reached j i) (omega arith) (record { picks = take i r.picks; weighs = d }))
      go (suc (suc x)) e may = absurd (omega arith)

-- what fewer of the first labels reach, more do
pub reached_more : (j : Job) (x i t : ℕ) → x ≤ i → Reached j x t → Reached j i t
reached_more j x zero t h r = let none : x ≡ 0 = omega arith in subst (λ (n : ℕ). Reached j n t) none r
reached_more j x (suc i) t h r =
    elim (dec_le x i) [
      | yes before ↦ reached_without j i t (reached_more j x i t before r)
      | no last ↦ let all : x ≡ suc i = omega arith in subst (λ (n : ℕ). Reached j n t) all r
    ]

-- total 0 is always reached: by the empty selection
pub total_0 : (j : Job) (i : ℕ) → Reached j i 0
total_0 j zero = reached_as [] (record { one_each = refl; allowed = λ m h. absurd (not-suc-le-zero h) }) (total_none j.weights)
total_0 j (suc i) = reached_without j i 0 (total_0 j i)

-- and without labels no other is
pub no_labels : (j : Job) (t : ℕ) → Reached j 0 t → t ≡ 0
no_labels j t r =
    sym r.weighs.weight ∙ ap (total j.weights) (empty_of r.picks r.weighs.selection.one_each) ∙ total_none j.weights
