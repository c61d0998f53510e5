-- A job has one greedy list, and one single list.
-- Assumes nothing.
use mathlib.Core.Path.{◌≡◌, refl, sym, ap, ◌∙◌}
use mathlib.Core.Logic.{inl, inr}
use Prim.Native.Nat.{ℕ, ◌≤◌, ◌<◌}
use native.Mathlib.Decide.{dec_lt, ℕ_discrete}
use native.Mathlib.Nat.{le_refl}
use native.Mathlib.Omega.{arith}
use mathlib.Core.Bool.{Bool, true, false, not}
use mathlib.Core.List.{List}
use lib.Dec.{T, eqb}
use lib.ListN.{length}
use mir.Facts.{eqb_no, no_eqb}
use Rattle.meaning.specs.Lists.{at, if}
use Rattle.meaning.specs.Job.{Job, labels}
use Rattle.meaning.proofs.UpTo.{made_length, made_at}
use Rattle.meaning.proofs.OneOfEach.{same_list}
use Rattle.meaning.specs.Quick.{goes_before, kept_before, still_fits, Greedy, Highest, Worthless, Single, one_label, no_label}
use Rattle.meaning.proofs.EachLabel.{total_same}
use Rattle.meaning.proofs.QuickOrder.{first_of, greedy_ordered}

if_same : {A : Type 0} (b : Bool) (x y z : A) → (T b → x ≡ y) → if b x z ≡ if b y z
unfolding if
if_same true x y z h = h tt
if_same false x y z h = refl

module _ (j : Job) where
  abbrev before : ℕ → ℕ → Bool
  before i m = goes_before j.values j.weights i m

  pub kept_long : (p : List ℕ) (i : ℕ) → length (kept_before j p i) ≡ labels j
  unfolding kept_before
  kept_long p i = made_length (λ m. if (before m i) (at p m) 0) (labels j)

  pub kept_at : (p : List ℕ) (i m : ℕ) → m < labels j → at (kept_before j p i) m ≡ if (before m i) (at p m) 0
  unfolding kept_before
  kept_at p i m h = made_at (λ m'. if (before m' i) (at p m') 0) (labels j) m h

  -- whether a label still fits depends on the labels before it alone
  pub fits_same : (p q : List ℕ) (i : ℕ) → ((m : ℕ) → m < labels j → T (before m i) → at p m ≡ at q m) → still_fits j p i ≡ still_fits j q i
  unfolding still_fits
  fits_same p q i h =
      rw (total_same (labels j) (kept_before j p i) (kept_before j q i) (kept_long p i) (kept_long q i) j.weights
      (λ m l. kept_at p i m l ∙ if_same (before m i) (at p m) (at q m) 0 (h m l) ∙ sym (kept_at q i m l)))

  -- the first label on which two greedy lists differed would have the same kept labels before it in both
  pub one_greedy : ((i : ℕ) → i < labels j → 1 ≤ at j.weights i) → (p q : List ℕ) → Greedy j p → Greedy j q → p ≡ q
  one_greedy light p q gp gq =
      same_list (labels j) p q gp.one_each gq.one_each
      (elim (first_of (greedy_ordered j.values j.weights (labels j) light) (λ i. not (eqb (at p i) (at q i))) (labels j) (le_refl (labels j))) [
        | inl none ↦ λ i h. same i (none i h)
        | inr d ↦
            absurd
            (eqb_no d.passes
            (gp.each d.label d.inside
            ∙ ap (λ (b : Bool). if b 1 0) (fits_same p q d.label (λ m h t. same m (λ u. d.first m h u t)))
            ∙ sym (gq.each d.label d.inside)))
      ])
    where
      same : (i : ℕ) → (T (not (eqb (at p i) (at q i))) → ⊥) → at p i ≡ at q i
      same i h = elim (ℕ_discrete (at p i) (at q i)) [ yes e ↦ e | no ne ↦ absurd (h (no_eqb ne)) ]

  one_highest : (k m : ℕ) → Highest j k → Highest j m → k ≡ m
  one_highest k m d e =
      elim (dec_lt k m) [
        | yes h ↦ absurd (omega (arith, e.first k h d.fits, d.highest m e.label e.fits))
        | no h ↦ elim (dec_lt m k) [
          | yes l ↦ absurd (omega (arith, d.first m l e.fits, e.highest k d.label d.fits))
          | no l ↦ omega arith
        ]
      ]

  -- the highest is one of the labels that are worth 0 where all that fit are
  not_both : (k : ℕ) → Highest j k → Worthless j → ⊥
  unfolding Worthless
  not_both k d none = omega (arith, none k d.label d.fits, d.worth)

  pub one_single : (s t : List ℕ) → Single j s → Single j t → s ≡ t
  one_single s t (one_label k d only) (one_label m e only') =
      let same : m ≡ k = one_highest m k e d in
      same_list (labels j) s t only.one_each only'.one_each
      (λ i h. elim (ℕ_discrete i k) [
        | yes here ↦ rw here (only.once_kept ∙ sym (rw same at only'.once_kept))
        | no other ↦ only.no_other i h other ∙ sym (only'.no_other i h (λ x. other (x ∙ same)))
      ])
  one_single s t (one_label k d only) (no_label none empty) = absurd (not_both k d none)
  one_single s t (no_label none empty) (one_label k d only) = absurd (not_both k d none)
  one_single s t (no_label none empty) (no_label none' empty') =
      same_list (labels j) s t empty.one_each empty'.one_each (λ i h. empty.none_kept i h ∙ sym (empty'.none_kept i h))
