-- Totals as sums over the labels, and compared label by label.
-- Assumes nothing.
use mathlib.Core.Path.{◌≡◌, refl, sym, ap, ◌∙◌}
use Prim.Native.Nat.{ℕ, zero, suc, ◌+◌, ◌*◌, ◌≤◌, ◌<◌, zero-le}
use native.Mathlib.Nat.{mul-add, mul-zero, mul-one, mul-le-mul_left, le_refl}
use native.Mathlib.Numerals.{add-one}
use native.Mathlib.Omega.{arith}
use mathlib.Core.List.{List}
use lib.ListN.{length, take, set}
use lib.Seq.{get_or-take, take-suc, length-take-le}
use Rattle.meaning.specs.Lists.{at, total}
use Rattle.meaning.proofs.Totals.{total_none, total_with, total_cut, front_long, empty_of, one_more, more_total}

-- f 0 + f 1 + .. + f (n-1)
sum_over : (ℕ → ℕ) → ℕ → ℕ
sum_over f zero = 0
sum_over f (suc n) = sum_over f n + f n

over_same : (f g : ℕ → ℕ) (n : ℕ) → ((m : ℕ) → m < n → f m ≡ g m) → sum_over f n ≡ sum_over g n
unfolding sum_over
over_same f g zero h = refl
over_same f g (suc n) h = omega (arith, over_same f g n (λ m l. h m (omega arith)), h n (le_refl (suc n)))

over_le : (f g : ℕ → ℕ) (n : ℕ) → ((m : ℕ) → m < n → f m ≤ g m) → sum_over f n ≤ sum_over g n
unfolding sum_over
over_le f g zero h = zero-le
over_le f g (suc n) h = omega (arith, over_le f g n (λ m l. h m (omega arith)), h n (le_refl (suc n)))

-- sums of products with x and y, term by term
over_exchange : (f g f' g' : ℕ → ℕ) (x y n : ℕ) → ((m : ℕ) → m < n → x * f m + y * g m ≤ y * g' m + x * f' m)
    → x * sum_over f n + y * sum_over g n ≤ y * sum_over g' n + x * sum_over f' n
unfolding sum_over
over_exchange f g f' g' x y zero h = omega (arith, mul-zero x, mul-zero y)
over_exchange f g f' g' x y (suc n) h =
    omega (
      arith,
      over_exchange f g f' g' x y n (λ m l. h m (omega arith)),
      h n (le_refl (suc n)),
      mul-add x (sum_over f n) (f n),
      mul-add y (sum_over g n) (g n),
      mul-add y (sum_over g' n) (g' n),
      mul-add x (sum_over f' n) (f' n),
    )

-- a total is such a sum
total_over : (ws p : List ℕ) (n : ℕ) → length p ≡ n → total ws p ≡ sum_over (λ m. at ws m * at p m) n
unfolding sum_over
total_over ws p zero e = ap (total ws) (empty_of p e) ∙ total_none ws
total_over ws p (suc n) e =
    let front = total_over ws (take n p) n (front_long p n e) in
    let same = over_same (λ m. at ws m * at (take n p) m) (λ m. at ws m * at p m) n (λ m h. ap (λ (x : ℕ). at ws m * x) (get_or-take n p m 0 h)) in
    omega (arith, total_cut ws p n e, front, same)

-- nothing picked, nothing summed
pub total_zeros : (ws p : List ℕ) (n : ℕ) → length p ≡ n → ((m : ℕ) → m < n → at p m ≡ 0) → total ws p ≡ 0
unfolding sum_over
total_zeros ws p n e h =
    total_over ws p n e ∙ over_same (λ m. at ws m * at p m) (λ m. 0) n (λ m l. rw (h m l) (mul-zero (at ws m))) ∙ zeros n
  where
    zeros : (n : ℕ) → sum_over (λ m. 0) n ≡ 0
    zeros zero = refl
    zeros (suc n) = omega (arith, zeros n)

-- one label picked
pub total_one : (ws p : List ℕ) (n k : ℕ) → length p ≡ n → ((m : ℕ) → m < n → at p m ≡ 0) → k < n → total ws (set p k 1) ≡ at ws k
unfolding one_more
total_one ws p n k e h l =
    ap (λ (x : ℕ). total ws (set p k (suc x))) (sym (h k l)) ∙ omega (arith, more_total ws p k (omega arith), total_zeros ws p n e h)

-- one count more, as a loop goes on
pub total_next : (ws p : List ℕ) (i : ℕ) → i < length p → total ws (take (i + 1) p) ≡ total ws (take i p) + at ws i * at p i
total_next ws p i h = rw (add-one, take-suc p i 0) (total_with ws (take i p) (at p i) i (length-take-le i p (omega arith)))

-- one of a label, or none, is worth no more than it
pub product_one : (v x : ℕ) → x ≤ 1 → v * x ≤ v
product_one v x h = omega (arith, mul-le-mul_left v h, mul-one v)

module _ (n : ℕ) (p q : List ℕ) (lp : length p ≡ n) (lq : length q ≡ n) where
  -- totals of lists with the same products
  pub total_same : (ws : List ℕ) → ((m : ℕ) → m < n → at p m ≡ at q m) → total ws p ≡ total ws q
  total_same ws h =
      total_over ws p n lp
      ∙ over_same (λ m. at ws m * at p m) (λ m. at ws m * at q m) n (λ m l. ap (λ (x : ℕ). at ws m * x) (h m l))
      ∙ sym (total_over ws q n lq)

  -- and with lesser ones
  pub total_le : (ws : List ℕ) → ((m : ℕ) → m < n → at ws m * at p m ≤ at ws m * at q m) → total ws p ≤ total ws q
  total_le ws h =
      omega (arith, total_over ws p n lp, total_over ws q n lq, over_le (λ m. at ws m * at p m) (λ m. at ws m * at q m) n h)

  -- two totals of p against two of q
  pub total_exchange : (vs ws : List ℕ) (x y : ℕ)
      → ((m : ℕ) → m < n → x * (at vs m * at p m) + y * (at ws m * at q m) ≤ y * (at ws m * at p m) + x * (at vs m * at q m))
      → x * total vs p + y * total ws q ≤ y * total ws p + x * total vs q
  total_exchange vs ws x y h =
      rw (total_over vs p n lp, total_over ws q n lq, total_over ws p n lp, total_over vs q n lq)
      (over_exchange (λ m. at vs m * at p m) (λ m. at ws m * at q m) (λ m. at vs m * at q m) (λ m. at ws m * at p m) x y n h)
