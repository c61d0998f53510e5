-- The quick answer's lists on a small job, as tests: each, where it computes to true, shows its meaning.
-- Assumes nothing.
use mathlib.Core.Path.{◌≡◌, refl, ◌∙◌}
use Prim.Native.Nat.{ℕ, ◌<◌}
use mathlib.Core.Bool.{Bool, ◌&&◌}
use mathlib.Core.List.{List}
use lib.Dec.{T, leb, ltb, eqb}
use lib.ListN.{length}
use mir.Facts.{and_yes, eqb_yes, leb_yes, ltb_yes, yes_leb}
use borrow.Author.Tests.{eq-eqb, ne_eqb}
use Rattle.meaning.specs.Lists.{at, if}
use Rattle.meaning.specs.Job.{Job, labels}
use Rattle.meaning.specs.Quick.{still_fits, Greedy, Highest, Worthless, Single, one_label, no_label}
use Rattle.meaning.proofs.Tests.{◌implies◌, implied, below, below_out}

-- `Greedy` as a test
unfoldable pub greedy_test : Job → List ℕ → Bool
unfolding below
greedy_test j p = eqb (length p) (labels j) && below (labels j) (λ i. eqb (at p i) (if (still_fits j p i) 1 0))

pub greedy_out : (j : Job) (p : List ℕ) → T (greedy_test j p) → Greedy j p
unfolding greedy_test
greedy_out j p t =
    let (long, kept) = and_yes (eqb (length p) (labels j)) (below (labels j) (λ i. eqb (at p i) (if (still_fits j p i) 1 0))) t in
    record { one_each = eqb_yes long; each = λ i h. eqb_yes (below_out (labels j) (λ m. eqb (at p m) (if (still_fits j p m) 1 0)) kept i h) }

module _ (j : Job) where
  -- a label fits
  light : ℕ → Bool
  light i = leb (at j.weights i) j.budget

  -- `Highest` as a test
  unfoldable pub is_highest : ℕ → Bool
  unfolding below light
  is_highest k =
      (ltb k (labels j) && (light k && ltb 0 (at j.values k)))
      && (below (labels j) (λ i. light i implies leb (at j.values i) (at j.values k))
      && below k (λ i. light i implies ltb (at j.values i) (at j.values k)))

  highest_out : (k : ℕ) → T (is_highest k) → Highest j k
  unfolding is_highest light
  highest_out k t =
      let (one, others) = and_yes (ltb k (labels j) && (light k && ltb 0 (at j.values k))) _ t in
      let (label, worthy) = and_yes (ltb k (labels j)) (light k && ltb 0 (at j.values k)) one in
      let (fits, worth) = and_yes (light k) (ltb 0 (at j.values k)) worthy in
      let (most, first) = and_yes (below (labels j) (λ i. light i implies leb (at j.values i) (at j.values k))) _ others in
      record {
        label = ltb_yes label;
        fits = leb_yes fits;
        worth = ltb_yes worth;
        highest = λ i h l. leb_yes (implied (light i) (leb (at j.values i) (at j.values k))
            (below_out (labels j) (λ m. light m implies leb (at j.values m) (at j.values k)) most i h) (yes_leb l));
        first = λ i h l. ltb_yes (implied (light i) (ltb (at j.values i) (at j.values k))
            (below_out k (λ m. light m implies ltb (at j.values m) (at j.values k)) first i h) (yes_leb l));
      }

  -- `Single` as a test, with the label that is kept
  unfoldable pub single_test : ℕ → List ℕ → Bool
  unfolding is_highest below
  single_test k s = is_highest k && (eqb (length s) (labels j) && below (labels j) (λ i. eqb (at s i) (if (eqb i k) 1 0)))

  pub single_out : (k : ℕ) (s : List ℕ) → T (single_test k s) → Single j s
  unfolding single_test if
  single_out k s t =
      let (top, only) = and_yes (is_highest k) _ t in
      let (long, kept) = and_yes (eqb (length s) (labels j)) (below (labels j) (λ i. eqb (at s i) (if (eqb i k) 1 0))) only in
      let each : (i : ℕ) → i < labels j → at s i ≡ if (eqb i k) 1 0 =
      λ i h. eqb_yes (below_out (labels j) (λ m. eqb (at s m) (if (eqb m k) 1 0)) kept i h) in
      let high = highest_out k top in
      one_label k high
      (record {
        one_each = eqb_yes long;
        once_kept = each k high.label ∙ chosen k;
        no_other = λ i h other. each i h ∙ passed_over i other;
      })
    where
      chosen : (k : ℕ) → ◌≡◌ {A = ℕ} (if (eqb k k) 1 0) 1
      chosen k = rw (eq-eqb k k refl)

      passed_over : (i : ℕ) → ¬ (i ≡ k) → ◌≡◌ {A = ℕ} (if (eqb i k) 1 0) 0
      passed_over i other = rw (ne_eqb i k other)

  -- and with none
  unfoldable pub is_no_single : List ℕ → Bool
  unfolding below light
  is_no_single s =
      below (labels j) (λ i. light i implies eqb (at j.values i) 0) && (eqb (length s) (labels j) && below (labels j) (λ i. eqb (at s i) 0))

  pub no_single_out : (s : List ℕ) → T (is_no_single s) → Single j s
  unfolding is_no_single light Worthless
  no_single_out s t =
      let (worthless, none) = and_yes (below (labels j) (λ i. light i implies eqb (at j.values i) 0)) _ t in
      let (long, kept) = and_yes (eqb (length s) (labels j)) (below (labels j) (λ i. eqb (at s i) 0)) none in
      no_label
      (λ i h l. eqb_yes (implied (light i) (eqb (at j.values i) 0)
      (below_out (labels j) (λ m. light m implies eqb (at j.values m) 0) worthless i h) (yes_leb l)))
      (record { one_each = eqb_yes long; none_kept = λ i h. eqb_yes (below_out (labels j) (λ m. eqb (at s m) 0) kept i h) })
