-- Kind 9: the stated share of the best. q times the value of the picks is at least q - 1 times the value of any selection that fits.
-- Assumes nothing.
use mathlib.Core.Path.{◌≡◌, refl, ap, ◌∙◌, subst}
use Prim.Native.Nat.{ℕ, zero, suc, ◌+◌, ◌-◌, ◌*◌, ◌/◌, ◌≤◌, ◌<◌, zero-le}
use native.Mathlib.Nat.{mul-add, add-mul, mul_assoc, mul_comm, mul-zero, zero-mul, mul-one, suc-mul, mul-le-mul_left, mul-le-mul_right, mul-div-le}
use native.Mathlib.Nat.{div-mul-le_self, lt-mul-div-succ, div-one, pos_of_div-pos, le_trans, le_of_eq}
use native.Mathlib.Decide.{dec_le, ℕ_discrete}
use native.Mathlib.Omega.{arith}
use mathlib.Core.List.{List, [], ◌∷◌, map}
use lib.ListN.{length, replicate, length-replicate, get_or-replicate}
use Rattle.meaning.specs.Lists.{at, sum, total}
use Rattle.meaning.specs.Job.{Job, labels, once}
use Rattle.meaning.specs.Knapsacks.{Fits, MayPick}
use Rattle.meaning.specs.Cuts.{remain, greatest_value, divisor, cut_by, cut_values}
use Rattle.meaning.specs.Stated.{CutBest, StatedPicks}
use Rattle.meaning.proofs.Totals.{one_more, length_more, more_total, at_more, at_more_other, sum_zeros, zero_total}
use Rattle.meaning.proofs.Remaining.{greatest_reached, few_picked}

-- ---- totals of cut values beside totals of values

module _ (d : ℕ) where
  -- the divisor times the cut values is no more than the values
  cut_under : (vs r : List ℕ) → d * total (cut_by d vs) r ≤ total vs r
  unfolding cut_by total
  cut_under [] r = le_of_eq (mul-zero d)
  cut_under (v ∷ vs) [] = le_of_eq (mul-zero d)
  cut_under (v ∷ vs) (x ∷ r) =
      omega (
        arith,
        cut_under vs r,
        mul-add d (v / d * x) (total (map (λ v. v / d) vs) r),
        mul_assoc d (v / d) x,
        mul-le-mul_right x (mul-div-le v d),
      )

  -- and less than one divisor below for each label that is picked
  cut_over : 0 < d → (vs r : List ℕ) → total vs r ≤ d * total (cut_by d vs) r + d * sum r
  unfolding cut_by total sum
  cut_over pos [] r = zero-le
  cut_over pos (v ∷ vs) [] = zero-le
  cut_over pos (v ∷ vs) (x ∷ r) =
      let up : v ≤ d * (v / d) + d = omega (arith, lt-mul-div-succ v pos, mul-add d (v / d) 1, mul-one d) in
      omega (
        arith,
        cut_over pos vs r,
        mul-add d (v / d * x) (total (map (λ v. v / d) vs) r),
        mul-add d x (sum r),
        mul_assoc d (v / d) x,
        mul-le-mul_right x up,
        add-mul (d * (v / d)) d x,
      )

-- divided by 1 the values are themselves
pub cut_by_one : (vs : List ℕ) → cut_by 1 vs ≡ vs
unfolding cut_by
cut_by_one [] = refl
cut_by_one (v ∷ vs) = rw (div-one v, cut_by_one vs)

-- ---- the law over plain numbers

-- x is at most y and an excess e, of which q are at most x
share_of : (q x y e : ℕ) → x ≤ y + e → q * e ≤ x → (q - 1) * x ≤ q * y
share_of zero x y e h k = omega (arith, zero-mul x)
share_of (suc q) x y e h k =
    let less : (suc q - 1) * x ≡ q * x = ap (λ (n : ℕ). n * x) (omega arith) in
    omega (arith, suc-mul q x, mul-le-mul_left (suc q) h, mul-add (suc q) y e)

-- ---- of a job

module _ (j : Job) where
  abbrev FitsJob : List ℕ → Type 0
  FitsJob r = Fits once j (labels j) j.budget r

  abbrev v : List ℕ → ℕ
  v r = total j.values r

  -- a label that remains fits alone
  alone_fits : (k : ℕ) → k < labels j → at j.weights k ≤ j.budget → (s : List ℕ) × FitsJob s × (v s ≡ at j.values k)
  unfolding MayPick
  alone_fits k inside light =
      let none : List ℕ = replicate (labels j) 0 in
      let long : length none ≡ labels j = length-replicate (labels j) 0 in
      let zeros : (m : ℕ) → m < labels j → at none m ≡ 0 = λ m h. get_or-replicate {A = ℕ} (labels j) m 0 0 h in
      let alone : (xs : List ℕ) → total xs (one_more none k) ≡ at xs k =
      λ xs. omega (arith, more_total xs none k (omega arith), zero_total xs none (sum_zeros (labels j))) in (
        one_more none k,
        record {
          selection = record {
            one_each = length_more none k ∙ long;
            allowed = λ m h. elim (ℕ_discrete m k) [
              | yes e ↦ rw e (omega (arith, at_more none k (omega arith), zeros k inside))
              | no e ↦ omega (arith, at_more_other none k m e, zeros m h)
            ];
          };
          weight = omega (arith, alone j.weights);
        },
        alone j.values,
      )

  -- where the divisor is 1, the picks are best
  pub uncut_best : (p : List ℕ) → CutBest j (cut_values j) p → divisor j ≡ 1 → (r : List ℕ) → FitsJob r → v r ≤ v p
  unfolding cut_values
  uncut_best p best e r fits =
      let same : (s : List ℕ) → total (cut_by (divisor j) j.values) s ≡ v s = λ s. rw (e, cut_by_one j.values) in
      omega (arith, same r, same p, best.greatest r fits)

  -- in general at most a divisor is lost for each remaining label
  loses : (p : List ℕ) → CutBest j (cut_values j) p → 0 < divisor j → (r : List ℕ) → FitsJob r → v r ≤ v p + divisor j * remain j
  unfolding cut_values
  loses p best pos r fits =
      let d = divisor j in
      omega (
        arith,
        cut_over d pos j.values r,
        cut_under d j.values p,
        mul-le-mul_left d (best.greatest r fits),
        mul-le-mul_left d (few_picked j r fits),
      )

  -- with a divisor above 1, and so q of them for each remaining label within the greatest value: that is the value of a label that fits alone
  module _ (p : List ℕ) (best : CutBest j (cut_values j) p) (r : List ℕ) (fits : FitsJob r) where
    share_cut : 1 < greatest_value j / (remain j * j.q) → (j.q - 1) * v r ≤ j.q * v p
    unfolding divisor greatest_value labels
    share_cut large =
        let q = j.q in
        let d = greatest_value j / (remain j * q) in
        let same : divisor j ≡ d = omega arith in
        let under : d * (remain j * q) ≤ greatest_value j = div-mul-le_self (greatest_value j) (remain j * q) in
        let scaled : q * (d * remain j) ≤ greatest_value j = omega (arith, mul_comm q (d * remain j), mul_assoc d (remain j) q) in
        let g = greatest_reached j.budget j.weights j.values (greatest_value j) refl (pos_of_div-pos (remain j * q) (omega arith)) in
        let (s, fits-s, worth-s) = alone_fits g.label g.inside g.light in
        let lost : (t : List ℕ) → FitsJob t → v t ≤ v p + d * remain j =
        λ t f. subst (λ (x : ℕ). v t ≤ v p + x * remain j) same (loses p best (omega arith) t f) in
        elim (dec_le (v s) (v r)) [
          | yes more ↦ share_of q (v r) (v p) (d * remain j) (lost r fits) (omega (arith, g.number))
          | no less ↦
              let under-s : v r ≤ v s = omega arith in
              le_trans (mul-le-mul_left (q - 1) under-s)
              (share_of q (v s) (v p) (d * remain j) (lost s fits-s) (omega (arith, g.number)))
        ]

    -- q times the value of such picks is at least q - 1 times the value of any selection that fits
    cut_best_share : (j.q - 1) * v r ≤ j.q * v p
    unfolding divisor
    cut_best_share =
        elim (dec_le (greatest_value j / (remain j * j.q)) 1) [
          | yes small ↦ share_of j.q (v r) (v p) 0 (omega (arith, uncut_best p best (omega arith) r fits)) (omega (arith, mul-zero j.q))
          | no large ↦ share_cut (omega arith)
        ]

  -- the same of the picks
  pub share_of_best : (p : List ℕ) → StatedPicks j p → (r : List ℕ) → FitsJob r → (j.q - 1) * v r ≤ j.q * v p
  unfolding StatedPicks
  share_of_best p picks r fits = cut_best_share p picks.one_of r fits
