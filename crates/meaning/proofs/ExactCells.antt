-- Every valid knapsack has exact cells for a certificate, and exact cells fit 32 bits.
-- Assumes nothing.
use mathlib.Core.Path.{◌≡◌, ap, refl, subst, sym}
use Prim.Native.Nat.{◌*◌, ◌+◌, ◌-◌, ◌<◌, ◌≤◌, suc, zero, zero-le, ℕ, min}
use native.Mathlib.Decide.{dec_le}
use native.Mathlib.Nat.{min-le_right, min-eq_left, le_antisymm, le_of_eq, le_refl, le_trans, mul-zero}
use native.Mathlib.Omega.{arith}
use mathlib.Core.List.{List, map}
use lib.ListN.{length}
use Rattle.meaning.specs.Lists.{at, up_to}
use Rattle.meaning.specs.Job.{Job, Knapsack, labels}
use Rattle.meaning.specs.Knapsacks.{BestValue}
use Rattle.meaning.specs.Certificates.{certificate_cells, most_picks}
use Rattle.meaning.proofs.UpTo.{made_at, made_length}
use Rattle.meaning.proofs.Tests.{up_to_lem}
use Rattle.meaning.proofs.Steps.{best_none, best_step}
use Rattle.meaning.proofs.Sections.{All32}
use Rattle.meaning.proofs.Valid.{Valid, value_32}
use Rattle.meaning.proofs.Covering.{CountsShown, Exact, budget_at, cell_within, labels_at}

-- of the numbers from 0 to n with P, one has the greatest f
greatest_of : (f : ℕ → ℕ) {P : ℕ → Type 0} → ((x : ℕ) → Dec (P x)) → (n : ℕ) → P 0 → (x : ℕ) × (x ≤ n) × P x × ((y : ℕ) → y ≤ n → P y → f y ≤ f x)
greatest_of f dec zero t = (0, zero-le, t, λ y h s. le_of_eq (ap f (le_antisymm h zero-le)))
greatest_of f dec (suc n) t =
    let (x, h, s, g) = greatest_of f dec n t in
    elim (dec (suc n)) [
      | no out ↦ (x, omega arith, s, up_to_lem n g (λ u. absurd (out u)))
      | yes there ↦ elim (dec_le (f x) (f (suc n))) [
        | yes more ↦ (suc n, le_refl (suc n), there, up_to_lem n (λ y k u. le_trans (g y k u) more) (λ u. le_refl (f (suc n))))
        | no less ↦ (x, omega arith, s, up_to_lem n g (λ u. omega arith))
      ]
    ]

module _ (k : Knapsack) (j : Job) (shown : CountsShown k j) where
  -- the best value of one label more, from those of the labels before it
  next_best : (i c : ℕ) → i < labels j → c ≤ j.budget → ((c' : ℕ) → c' ≤ j.budget → (v : ℕ) × BestValue k j i c' v)
      → (b : ℕ) × BestValue k j (suc i) c b
  next_best i c hi hc before =
      let w : ℕ = at j.weights i in
      -- at a budget, or at C where that is less
      let at_most : (c' : ℕ) → (v : ℕ) × BestValue k j i (min c' j.budget) v = λ c'. before (min c' j.budget) (min-le_right c' j.budget) in
      let row : ℕ → ℕ = λ c'. (at_most c').0 in
      let rows : (c' : ℕ) → c' ≤ c → BestValue k j i c' (row c') =
      λ c' h. subst (λ (z : ℕ). BestValue k j i z (row c')) (min-eq_left (omega arith)) (at_most c').1 in
      let f : ℕ → ℕ = λ x. row (c - w * x) + at j.values i * x in
      let (x, h, light, most) = greatest_of f (λ x. dec_le (w * x) c) (most_picks k j i) (omega (arith, mul-zero w)) in (
        f x,
        best_step k j i c row rows (f x)
            (λ y may heavy. most y (shown.within i y hi may (omega arith)) heavy) x (shown.allowed i x h) light refl,
      )

  -- every best value is there
  pub best_of : (i c : ℕ) → i ≤ labels j → c ≤ j.budget → (v : ℕ) × BestValue k j i c v
  best_of zero c hi hc = (0, best_none k j c)
  best_of (suc i) c hi hc = next_best i c hi hc (λ c' h. best_of i c' (omega arith) h)

  -- the one that cell m is for, each number up to its bound
  best_at : (m : ℕ) → (v : ℕ) × BestValue k j (min (labels_at k j m) (labels j)) (min (budget_at k j m) j.budget) v
  best_at m =
      best_of (min (labels_at k j m) (labels j)) (min (budget_at k j m) j.budget) (min-le_right (labels_at k j m) (labels j))
      (min-le_right (budget_at k j m) j.budget)

  -- the cells of a certificate, in their order
  pub exact_cells : List ℕ
  exact_cells = map (λ (m : ℕ). (best_at m).0) (up_to (certificate_cells k j))

  pub exact_long : length exact_cells ≡ certificate_cells k j
  unfolding exact_cells
  exact_long = made_length (λ (m : ℕ). (best_at m).0) (certificate_cells k j)

  pub cells_exact : Exact k j exact_cells
  unfolding exact_cells
  cells_exact = record {
    is_best = λ m h.
        let here = cell_within k j m h in
        subst (λ (v : ℕ). BestValue k j (labels_at k j m) (budget_at k j m) v) (sym (made_at (λ (m : ℕ). (best_at m).0) (certificate_cells k j) m h))
        (subst (λ (y : ℕ). BestValue k j (labels_at k j m) y (best_at m).0) (min-eq_left here.small)
        (subst (λ (x : ℕ). BestValue k j x (min (budget_at k j m) j.budget) (best_at m).0) (min-eq_left here.few) (best_at m).1));
  }

-- exact cells fit 32 bits
pub exact_32 : (k : Knapsack) (j : Job) → Valid k j → (cells : List ℕ) → length cells ≡ certificate_cells k j → Exact k j cells → All32 cells
unfolding All32
exact_32 k j ok cells long exact m h =
    let there : m < certificate_cells k j = subst (λ (n : ℕ). m < n) long h in
    value_32 k j ok (labels_at k j m) (budget_at k j m) (at cells m) (cell_within k j m there).small (exact.is_best m there)
