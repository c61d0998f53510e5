-- Numbers by their bits, lowest first.
-- Assumes nothing.
use mathlib.Core.Path.{◌≡◌, refl, sym, ap, ap₂, ◌∙◌}
use Prim.Native.Nat.{ℕ, zero, suc, ◌+◌, ◌-◌, ◌*◌, ◌/◌, ◌%◌, ◌^◌, ◌≤◌, ◌<◌}
use native.Mathlib.Nat.{two-pow-succ, zero-add, add-mul, mul_assoc, mul-add, mod-lt}
use native.Mathlib.Omega.{arith}
use lib.Pow.{pow_pos, pow-add, shl_exact, shl_lt, high, low, split}
use Rattle.rows.proofs.Bits.{bit_of, bit_shr}
use Rattle.light.specs.Bits.{binary}

-- the first n bits are 0 or 1
abbrev pub Bits : (ℕ → ℕ) → ℕ → Type 0
Bits f n = (k : ℕ) → k < n → f k ≤ 1

pub binary_lt : (f : ℕ → ℕ) (n : ℕ) → Bits f n → binary f n < 2 ^ n
unfolding binary
binary_lt f zero h = omega arith
binary_lt f (suc n) h =
    omega (arith, binary_lt (λ i. f (suc i)) n (λ k l. h (suc k) (omega arith)), h 0 (omega arith), two-pow-succ n)

pub binary_same : (f g : ℕ → ℕ) (n : ℕ) → ((k : ℕ) → k < n → f k ≡ g k) → binary f n ≡ binary g n
unfolding binary
binary_same f g zero e = refl
binary_same f g (suc n) e =
    ap₂ (λ (x y : ℕ). x + 2 * y) (e 0 (omega arith)) (binary_same (λ i. f (suc i)) (λ i. g (suc i)) n (λ k l. e (suc k) (omega arith)))

-- ---- what a bit is

bit_first : (b y : ℕ) → b ≤ 1 → bit_of (b + 2 * y) 0 ≡ b
unfolding bit_of
bit_first b y h = omega arith

bit_next : (b y k : ℕ) → b ≤ 1 → bit_of (b + 2 * y) (suc k) ≡ bit_of y k
bit_next b y k h =
    let halved : (b + 2 * y) / 2 ^ 1 ≡ y = omega arith in
    ap (bit_of (b + 2 * y)) (omega arith) ∙ sym (bit_shr (b + 2 * y) 1 k) ∙ ap (λ (x : ℕ). bit_of x k) halved

pub binary_bit : (f : ℕ → ℕ) (n k : ℕ) → Bits f n → k < n → bit_of (binary f n) k ≡ f k
unfolding binary
binary_bit f zero k h l = absurd (omega arith)
binary_bit f (suc n) zero h l = bit_first (f 0) (binary (λ i. f (suc i)) n) (h 0 (omega arith))
binary_bit f (suc n) (suc k) h l =
    bit_next (f 0) (binary (λ i. f (suc i)) n) k (h 0 (omega arith))
    ∙ binary_bit (λ i. f (suc i)) n k (λ m b. h (suc m) (omega arith)) (omega arith)

-- ---- bits from the highest down

module _ (f : ℕ → ℕ) (n : ℕ) (few : Bits f n) (short : n ≤ 64) where
  module _ (i r : ℕ) (within : i ≤ n) (so_far : r ≡ binary (λ m. f (i + m)) (n - i)) where
    short_so_far : r < 2 ^ (n - i)
    short_so_far = rw so_far (binary_lt (λ m. f (i + m)) (n - i) (λ k l. few (i + k) (omega arith)))

    -- one bit more
    pub one_more : (b : ℕ) → 0 < i → b ≡ f (i - 1) → r * 2 ^ 1 % 2 ^ 64 + b ≡ binary (λ m. f (i - 1 + m)) (n - (i - 1))
    unfolding binary
    one_more b pos e =
        let long : n - (i - 1) ≡ suc (n - i) = omega arith in
        let first : f (i - 1 + 0) ≡ f (i - 1) = ap f (omega arith) in
        let others : binary (λ m. f (i - 1 + suc m)) (n - i) ≡ binary (λ m. f (i + m)) (n - i) =
        binary_same (λ m. f (i - 1 + suc m)) (λ m. f (i + m)) (n - i) (λ k l. ap f (omega arith)) in
        rw long (omega (arith, first, others, so_far, e, shl_exact (n - i) 1 64 short_so_far (omega arith)))

-- ---- bits in two parts

pub binary_none : (f : ℕ → ℕ) (n : ℕ) → ((k : ℕ) → k < n → f k ≡ 0) → binary f n ≡ 0
unfolding binary
binary_none f zero e = refl
binary_none f (suc n) e = omega (arith, e 0 (omega arith), binary_none (λ i. f (suc i)) n (λ k l. e (suc k) (omega arith)))

pub binary_split : (f : ℕ → ℕ) (a b : ℕ) → binary f (a + b) ≡ binary (λ i. f (a + i)) b * 2 ^ a + binary f a
unfolding binary
binary_split f zero b =
    let same : binary f (0 + b) ≡ binary (λ i. f (0 + i)) b =
    ap (binary f) (zero-add b) ∙ binary_same f (λ i. f (0 + i)) b (λ k l. ap f (sym (zero-add k))) in
    omega (arith, same)
binary_split f (suc a) b =
    let others : binary (λ i. f (suc (a + i))) b ≡ binary (λ i. f (suc a + i)) b =
    binary_same (λ i. f (suc (a + i))) (λ i. f (suc a + i)) b (λ k l. ap f (omega arith)) in
    let long : suc a + b ≡ suc (a + b) = omega arith in
    let rest = binary (λ i. f (suc a + i)) b in
    let double : rest * 2 ^ suc a ≡ rest * (2 ^ a + 2 ^ a) = ap (λ (x : ℕ). rest * x) (two-pow-succ a) in
    rw long
    (omega (arith, binary_split (λ i. f (suc i)) a b, ap (λ (x : ℕ). x * 2 ^ a) others, double, mul-add rest (2 ^ a) (2 ^ a)))

-- a number of a + b bits moved up by b: the a low bits stay
pub move_high : (x a b : ℕ) → x * 2 ^ b % 2 ^ (a + b) ≡ x % 2 ^ a * 2 ^ b
move_high x a b =
    let over = x / 2 ^ a in
    let rest = x % 2 ^ a in
    ap (λ (y : ℕ). y % 2 ^ (a + b))
    (ap (λ (y : ℕ). y * 2 ^ b) (sym (split x a))
    ∙ add-mul (over * 2 ^ a) rest (2 ^ b)
    ∙ ap (λ (y : ℕ). y + rest * 2 ^ b) (mul_assoc over (2 ^ a) (2 ^ b) ∙ ap (λ (y : ℕ). over * y) (sym (pow-add 2 a b))))
    ∙ low over (a + b) (shl_lt a b (mod-lt x (pow_pos a)))

module _ (f : ℕ → ℕ) (a b : ℕ) (few : Bits f (a + b)) where
  first_low : binary f a < 2 ^ a
  first_low = binary_lt f a (λ k l. few k (omega arith))

  -- without the a low bits
  pub drop_low : binary f (a + b) / 2 ^ a ≡ binary (λ i. f (a + i)) b
  drop_low = ap (λ (x : ℕ). x / 2 ^ a) (binary_split f a b) ∙ high (binary (λ i. f (a + i)) b) a first_low

  -- moved up by b, without those that are moved out
  pub drop_high : binary f (a + b) * 2 ^ b % 2 ^ (a + b) ≡ binary f a * 2 ^ b
  drop_high =
      move_high (binary f (a + b)) a b
      ∙ ap (λ (x : ℕ). x * 2 ^ b) (ap (λ (x : ℕ). x % 2 ^ a) (binary_split f a b) ∙ low (binary (λ i. f (a + i)) b) a first_low)
