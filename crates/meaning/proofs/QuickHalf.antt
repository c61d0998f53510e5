-- The greedy list and the single list together are worth no less than any selection that fits.
-- Assumes nothing.
use mathlib.Core.Path.{◌≡◌, refl, sym, ap, ◌∙◌}
use mathlib.Core.Logic.{◌⊎◌, inl, inr}
use Prim.Native.Nat.{ℕ, zero, suc, ◌+◌, ◌*◌, ◌≤◌, ◌<◌}
use native.Mathlib.Nat.{le_refl, le_of_mul-le-mul_left, mul-le-mul_left, mul-add, mul-one, mul-zero, zero-mul, mul_comm}
use native.Mathlib.Decide.{dec_lt}
use native.Mathlib.Omega.{arith}
use mathlib.Core.Bool.{Bool, true, false, ◌&&◌}
use mathlib.Core.List.{List}
use lib.Dec.{T, leb, ltb, eqb}
use lib.ListN.{length}
use mir.Facts.{and_yes, yes_and, yes_ltb, yes_leb, yes_eqb, ltb_yes, leb_yes, eqb_yes}
use Rattle.meaning.specs.Lists.{at, total, if}
use Rattle.meaning.specs.Job.{Job, labels, once}
use Rattle.meaning.specs.Knapsacks.{Fits, MayPick}
use Rattle.meaning.proofs.Totals.{total_part}
use Rattle.meaning.specs.Quick.{goes_before, kept_before, still_fits, Greedy, Worthless, Single, one_label, no_label}
use Rattle.meaning.proofs.EachLabel.{total_le, total_exchange}
use Rattle.meaning.proofs.QuickLists.{kept_long, kept_at}
use Rattle.meaning.proofs.QuickOrder.{First, first_of, greedy_ordered, before_worth, behind_worth}

-- ---- one label's part in the exchange: q counts it in the selection, a among the kept labels before the one with value x and weight y

-- where it is one of those, it is worth no less for its weight
kept_part : (x y v w q a : ℕ) → q ≤ 1 → a ≡ 1 → x * w ≤ v * y → y * (v * q) + x * (w * a) ≤ x * (w * q) + y * (v * a)
kept_part x y v w zero a h one le = rw one (omega (arith, mul-zero v, mul-zero w, mul-one v, mul-one w, mul-zero x, mul-zero y, mul_comm v y))
kept_part x y v w (suc q) a h one le = let e : q ≡ 0 = omega arith in rw (one, e) (omega arith)

-- where it is none of those, it isn't in the selection, or is worth no more for its weight
other_part : (x y v w q a : ℕ) → q ≤ 1 → a ≡ 0 → (q ≡ 0) ⊎ (v * y ≤ x * w) → y * (v * q) + x * (w * a) ≤ x * (w * q) + y * (v * a)
other_part x y v w zero a h none d = rw none (omega (arith, mul-zero v, mul-zero w, mul-zero x, mul-zero y))
other_part x y v w (suc q) a h none (inl e) = absurd (omega arith)
other_part x y v w (suc q) a h none (inr le) =
    let e : q ≡ 0 = omega arith in
    rw (none, e) (omega (arith, mul-zero v, mul-zero w, mul-one v, mul-one w, mul-zero x, mul-zero y, mul_comm v y))

-- from the exchange to values: y * Q ≤ y * (A + x) where the kept labels before it and it weigh more than C together
weighed : (x y Q A wq wa C : ℕ) → 0 < y → y * Q + x * wa ≤ x * wq + y * A → wq ≤ C → C < wa + y → Q ≤ A + x
weighed x y Q A wq wa C pos h fits over =
    le_of_mul-le-mul_left {k = y}
    (omega (arith, mul-le-mul_left {m = wq} {n = wa + y} x (omega arith), mul-add x wa y, mul-add y A x, mul_comm x y))
    pos

if_taken : (b : Bool) → b ≡ true → (x : ℕ) → if b x 0 ≡ x
unfolding if
if_taken b e x = rw e

if_left : (b : Bool) → b ≡ false → (x : ℕ) → if b x 0 ≡ 0
unfolding if
if_left b e x = rw e

module _ (j : Job) (light : (i : ℕ) → i < labels j → 1 ≤ at j.weights i) where
  abbrev v : ℕ → ℕ
  v i = at j.values i

  abbrev w : ℕ → ℕ
  w i = at j.weights i

  abbrev before : ℕ → ℕ → Bool
  before i m = goes_before j.values j.weights i m

  -- a label that fits is worth no more than the single list
  pub single_worth : (s : List ℕ) → Single j s → (k : ℕ) → k < labels j → w k ≤ j.budget → v k ≤ total j.values s
  unfolding Worthless
  single_worth s (one_label m d only) k h fits =
      omega (arith, d.highest k h fits, total_part j.values s m, ap (λ (x : ℕ). v m * x) only.once_kept, mul-one (v m))
  single_worth s (no_label worthless empty) k h fits = omega (arith, worthless k h fits)

  module _ (p q : List ℕ) (greedy : Greedy j p) (fit : Fits once j (labels j) j.budget q) where
    -- a label is missed where it fits the budget and is worth something, and the greedy list doesn't keep it
    missed : ℕ → Bool
    missed i = leb (w i) j.budget && (ltb 0 (v i) && eqb (at p i) 0)

    -- a label of the selection fits the budget
    light_pick : (m : ℕ) → m < labels j → (at q m ≡ 0) ⊎ (w m ≤ j.budget)
    light_pick m h = go (at q m) refl
      where
        go : (x : ℕ) → at q m ≡ x → (at q m ≡ 0) ⊎ (w m ≤ j.budget)
        go zero e = inl e
        go (suc x) e =
            let heavy = mul-le-mul_left {m = 1} {n = at q m} (w m) (omega arith) in
            inr (omega (arith, total_part j.weights q m, fit.weight, heavy, mul-one (w m)))

    once_each : (m : ℕ) → m < labels j → at q m ≤ 1
    unfolding MayPick
    once_each m h = fit.selection.allowed m h

    -- a label that isn't missed, and that the greedy list doesn't keep, adds nothing to the selection's worth
    nothing_missed : (m : ℕ) → m < labels j → (T (missed m) → ⊥) → at p m ≡ 0 → (at q m ≡ 0) ⊎ (v m ≡ 0)
    unfolding missed
    nothing_missed m h not-missed none =
        elim (light_pick m h) [
          | inl e ↦ inl e
          | inr fits ↦ elim (dec_lt 0 (v m)) [
            | yes pos ↦
                let left_out = yes_and (ltb 0 (v m)) (eqb (at p m) 0) (yes_ltb pos) (yes_eqb none) in
                absurd (not-missed (yes_and (leb (w m) j.budget) _ (yes_leb fits) left_out))
            | no zero' ↦ inr (omega arith)
          ]
        ]

    -- no label is missed: the greedy list alone is worth as much
    all_kept : ((i : ℕ) → i < labels j → T (missed i) → ⊥) → total j.values q ≤ total j.values p
    all_kept none = total_le (labels j) q p fit.selection.one_each greedy.one_each j.values (λ m h. part m h (at p m) refl)
      where
        part : (m : ℕ) → m < labels j → (x : ℕ) → at p m ≡ x → v m * at q m ≤ v m * at p m
        part m h zero e =
            elim (nothing_missed m h (none m h) e) [
              | inl z ↦ rw z (omega (arith, mul-zero (v m)))
              | inr z ↦ rw z (omega (arith, zero-mul (at q m)))
            ]
        part m h (suc x) e = mul-le-mul_left (v m) (omega (arith, once_each m h))

    -- the first label that is missed: with those kept before it, it is too heavy
    module _ (d : First before missed (labels j)) where
      abbrev k : ℕ
      k = d.label

      a : List ℕ
      a = kept_before j p k

      a_long : length a ≡ labels j
      unfolding a
      a_long = kept_long j p k

      a_at : (m : ℕ) → m < labels j → at a m ≡ if (before m k) (at p m) 0
      unfolding a
      a_at = kept_at j p k

      known : (w k ≤ j.budget) × (0 < v k) × (at p k ≡ 0)
      unfolding missed
      known =
          let (light', rest) = and_yes (leb (w k) j.budget) (ltb 0 (v k) && eqb (at p k) 0) d.passes in
          let (worth, none) = and_yes (ltb 0 (v k)) (eqb (at p k) 0) rest in
          (leb_yes light', ltb_yes worth, eqb_yes none)

      too_heavy : j.budget < total j.weights a + w k
      unfolding a still_fits if
      too_heavy =
          elim (dec_lt j.budget (total j.weights (kept_before j p k) + w k)) [
            | yes h ↦ h
            | no h ↦
                let fits : total j.weights (kept_before j p k) + w k ≤ j.budget = omega arith in
                let within = leb (total j.weights (kept_before j p k) + w k) j.budget in
                let still = yes_and (ltb 0 (v k)) within (yes_ltb known.1) (yes_leb fits) in
                absurd (clash (still_fits j p k) still (sym known.2 ∙ greedy.each k d.inside))
          ]
        where
          clash : (b : Bool) → T b → ◌≡◌ {A = ℕ} 0 (if b 1 0) → ⊥
          clash true t e = omega arith
          clash false t e = t

      part : (m : ℕ) → m < labels j → w k * (v m * at q m) + v k * (w m * at a m) ≤ v k * (w m * at q m) + w k * (v m * at a m)
      unfolding if
      part m h = go (before m k) refl (still_fits j p m) (greedy.each m h)
        where
          go : (b : Bool) → before m k ≡ b → (s : Bool) → at p m ≡ if s 1 0
              → w k * (v m * at q m) + v k * (w m * at a m) ≤ v k * (w m * at q m) + w k * (v m * at a m)
          go true e true kept =
              kept_part (v k) (w k) (v m) (w m) (at q m) (at a m) (once_each m h) (a_at m h ∙ rw e kept)
              (before_worth j.values j.weights m k (rw e tt))
          go true e false left =
              other_part (v k) (w k) (v m) (w m) (at q m) (at a m) (once_each m h) (a_at m h ∙ rw e left)
              (elim (nothing_missed m h (λ t. d.first m h t (rw e tt)) left) [
                | inl z ↦ inl z
                | inr z ↦ inr (rw z (omega (arith, zero-mul (w k))))
              ])
          go false e s x =
              other_part (v k) (w k) (v m) (w m) (at q m) (at a m) (once_each m h) (a_at m h ∙ rw e)
              (inr (behind_worth j.values j.weights m k (λ t. rw e at t)))

      -- the kept labels before it, and it, are worth no less than the selection
      with_missed : total j.values q ≤ total j.values p + v k
      with_missed =
          let sums = total_exchange (labels j) q a fit.selection.one_each a_long j.values j.weights (w k) (v k) part in
          let front = total_le (labels j) a p a_long greedy.one_each j.values (λ m h. mul-le-mul_left (v m) (at_most m h)) in
          let worth =
          weighed (v k) (w k) (total j.values q) (total j.values a) (total j.weights q) (total j.weights a) j.budget
          (light k d.inside) sums fit.weight too_heavy in
          omega arith
        where
          at_most : (m : ℕ) → m < labels j → at a m ≤ at p m
          at_most m h = go (before m k) refl
            where
              go : (b : Bool) → before m k ≡ b → at a m ≤ at p m
              go true e = omega (arith, a_at m h ∙ if_taken (before m k) e (at p m))
              go false e = omega (arith, a_at m h ∙ if_left (before m k) e (at p m))

    -- both lists together are worth no less than the selection
    pub both_worth : (s : List ℕ) → Single j s → total j.values q ≤ total j.values p + total j.values s
    both_worth s single =
        elim (first_of (greedy_ordered j.values j.weights (labels j) light) missed (labels j) (le_refl (labels j))) [
          | inl none ↦ omega (arith, all_kept none)
          | inr d ↦ omega (arith, with_missed d, single_worth s single d.label d.inside (known d).0)
        ]
