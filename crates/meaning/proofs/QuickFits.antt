-- Both lists are selections that fit the budget.
-- Assumes nothing.
use mathlib.Core.Path.{◌≡◌, refl, sym, ap, ◌∙◌}
use mathlib.Core.Logic.{inl, inr}
use Prim.Native.Nat.{ℕ, suc, ◌+◌, ◌≤◌, ◌<◌}
use native.Mathlib.Decide.{ℕ_discrete}
use native.Mathlib.Nat.{le_refl}
use native.Mathlib.Omega.{arith}
use mathlib.Core.Bool.{Bool, true, false, not}
use mathlib.Core.List.{List}
use lib.Dec.{T, leb, ltb, eqb}
use lib.ListN.{length}
use mir.Facts.{and_yes, leb_yes, eqb_no, no_eqb}
use Rattle.meaning.specs.Lists.{at, total, if}
use Rattle.meaning.specs.Job.{Job, labels, once}
use Rattle.meaning.specs.Knapsacks.{Fits, MayPick}
use Rattle.meaning.proofs.Totals.{one_more, length_more, more_total, at_more, at_more_other}
use Rattle.meaning.proofs.Totals.{one_fewer, length_fewer, fewer_total, at_fewer, at_fewer_other}
use Rattle.meaning.specs.Quick.{goes_before, kept_before, still_fits, Greedy, Single, one_label, no_label}
use Rattle.meaning.proofs.EachLabel.{total_same, total_zeros}
use Rattle.meaning.proofs.QuickOrder.{First, first_of, greedy_ordered, backwards, not_self, one_or_other}
use Rattle.meaning.proofs.QuickLists.{kept_long, kept_at}

one_or_none : (b : Bool) → if b 1 0 ≤ 1
unfolding if
one_or_none true = omega arith
one_or_none false = omega arith

-- what is counted was let in
let_in : (b : Bool) (x : ℕ) → x ≡ if b 1 0 → ¬ (x ≡ 0) → T b × (x ≡ 1)
unfolding if
let_in true x e h = (tt, e)
let_in false x e h = absurd (h e)

module _ (j : Job) where
  -- each label at most once
  pub greedy_ones : (p : List ℕ) → Greedy j p → (i : ℕ) → i < labels j → at p i ≤ 1
  greedy_ones p g i h = omega (arith, g.each i h, one_or_none (still_fits j p i))

  pub single_long : (s : List ℕ) → Single j s → length s ≡ labels j
  single_long s (one_label k d only) = only.one_each
  single_long s (no_label worthless empty) = empty.one_each

  abbrev v : ℕ → ℕ
  v i = at j.values i

  abbrev w : ℕ → ℕ
  w i = at j.weights i

  abbrev before : ℕ → ℕ → Bool
  before i m = goes_before j.values j.weights i m

  -- a list of ones and zeros that is light enough fits
  fits_of : (p : List ℕ) → length p ≡ labels j → ((i : ℕ) → i < labels j → at p i ≤ 1) → total j.weights p ≤ j.budget
      → Fits once j (labels j) j.budget p
  unfolding MayPick
  fits_of p long ones light = record { selection = record { one_each = long; allowed = ones }; weight = light }

  module _ (light : (i : ℕ) → i < labels j → 1 ≤ w i) (p : List ℕ) (g : Greedy j p) where
    -- the last label that is kept let in all before it, and none stands behind it
    module _ (d : First (λ i m. before m i) (λ i. not (eqb (at p i) 0)) (labels j)) where
      abbrev k : ℕ
      k = d.label

      abbrev a : List ℕ
      a = kept_before j p k

      kept : T (still_fits j p k) × (at p k ≡ 1)
      kept = let_in (still_fits j p k) (at p k) (g.each k d.inside) (eqb_no d.passes)

      same : (m : ℕ) → m < labels j → at p m ≡ at (one_more a k) m
      unfolding if
      same m h = elim (ℕ_discrete m k) [
        | yes here ↦
            let fits : k < length a = omega (arith, kept_long j p k, d.inside) in
            let none = kept_at j p k k d.inside ∙ off (before k k) (not_self j.values j.weights k) in
            rw here (kept.1 ∙ sym (at_more a k fits ∙ ap suc none))
        | no other ↦ sym (at_more_other a k m other ∙ kept_at j p k m h ∙ go other (before m k) refl)
      ]
        where
          off : (b : Bool) → (T b → ⊥) → if b (at p k) 0 ≡ 0
          off true no' = absurd (no' tt)
          off false no' = refl

          go : ¬ (m ≡ k) → (b : Bool) → before m k ≡ b → if b (at p m) 0 ≡ at p m
          go other true e = refl
          go other false e =
              elim (ℕ_discrete (at p m) 0) [
                | yes zero' ↦ sym zero'
                | no some' ↦
                    elim (one_or_other j.values j.weights m k other) [
                      | inl t ↦ absurd (rw e at t)
                      | inr t ↦ absurd (d.first m h (no_eqb some') t)
                    ]
              ]

      weight : total j.weights p ≤ j.budget
      unfolding still_fits
      weight =
          let t = (and_yes (ltb 0 (v k)) (leb (total j.weights (kept_before j p k) + w k) j.budget) kept.0).1 in
          omega (
            arith,
            leb_yes {a = total j.weights (kept_before j p k) + w k} {b = j.budget} t,
            total_same (labels j) p (one_more a k) g.one_each (length_more a k ∙ kept_long j p k) j.weights same,
            more_total j.weights a k (omega (arith, kept_long j p k, d.inside)),
          )

    pub greedy_fits : Fits once j (labels j) j.budget p
    greedy_fits =
        let order = backwards (greedy_ordered j.values j.weights (labels j) light) in
        fits_of p g.one_each (greedy_ones p g)
        (elim (first_of order (λ i. not (eqb (at p i) 0)) (labels j) (le_refl (labels j))) [
          | inl none ↦ omega (arith, total_zeros j.weights p (labels j) g.one_each (λ m h. zero_at m (none m h)))
          | inr d ↦ weight d
        ])
      where
        zero_at : (m : ℕ) → (T (not (eqb (at p m) 0)) → ⊥) → at p m ≡ 0
        zero_at m h = elim (ℕ_discrete (at p m) 0) [ yes e ↦ e | no ne ↦ absurd (h (no_eqb ne)) ]

  pub single_fits : (s : List ℕ) → Single j s → Fits once j (labels j) j.budget s
  single_fits s (one_label k d only) =
      fits_of s only.one_each
      (λ i h. elim (ℕ_discrete i k) [
        | yes here ↦ rw here (omega (arith, only.once_kept))
        | no other ↦ omega (arith, only.no_other i h other)
      ])
      (omega (arith, fewer_total j.weights s k inside (omega (arith, only.once_kept)), rest, d.fits))
    where
      inside : k < length s
      inside = omega (arith, d.label, only.one_each)

      rest : total j.weights (one_fewer s k) ≡ 0
      rest =
          total_zeros j.weights (one_fewer s k) (labels j) (length_fewer s k ∙ only.one_each)
          (λ m h. elim (ℕ_discrete m k) [
            | yes here ↦ rw here (omega (arith, at_fewer s k inside, only.once_kept))
            | no other ↦ at_fewer_other s k m other ∙ only.no_other m h other
          ])
  single_fits s (no_label worthless empty) =
      fits_of s empty.one_each (λ i h. omega (arith, empty.none_kept i h))
      (omega (arith, total_zeros j.weights s (labels j) empty.one_each empty.none_kept))
