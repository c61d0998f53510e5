-- Words of 64 bits at any place of a row of bits, and how a word is joined of the two that it lies across.
-- Assumes nothing.
use mathlib.Core.Path.{◌≡◌, sym, ap, ap₂, ◌∙◌, subst}
use Prim.Native.Nat.{ℕ, suc, ◌+◌, ◌-◌, ◌*◌, ◌/◌, ◌%◌, ◌^◌, ◌≤◌, ◌<◌}
use native.Mathlib.Nat.{mul_assoc, suc-mul, mul-le-mul_right, mod-lt}
use native.Mathlib.Omega.{arith}
use lib.Pow.{pow_pos, pow-add, shl_exact, shr_lt}
use Rattle.light.specs.Bits.{binary}
use Rattle.light.proofs.Binary.{Bits, binary_lt, binary_same, binary_split, move_high, drop_low, drop_high}

-- 64 bits from place x on
unfoldable pub window : (ℕ → ℕ) → ℕ → ℕ
window f x = binary (λ i. f (x + i)) 64

pub window_lt : (f : ℕ → ℕ) → ((k : ℕ) → f k ≤ 1) → (x : ℕ) → window f x < 2 ^ 64
unfolding window
window_lt f few x = binary_lt (λ i. f (x + i)) 64 (λ k l. few (x + k))

-- a word that starts s places before the end of one window has its s high bits, and over them the low ones of the next
pub window_joined : (f : ℕ → ℕ) → ((k : ℕ) → f k ≤ 1) → (x s : ℕ) → 1 ≤ s → s ≤ 64
    → window f (x + (64 - s)) ≡ window f (x + 64) * 2 ^ s % 2 ^ 64 + window f x / 2 ^ (64 - s)
unfolding window
window_joined f few x s pos most =
    let a = 64 - s in
    let parts : 64 - s + s ≡ 64 = omega arith in
    let turned : s + (64 - s) ≡ 64 = omega arith in
    let low : binary (λ i. f (x + i)) 64 / 2 ^ a ≡ binary (λ i. f (x + (a + i))) s =
    subst (λ (n : ℕ). binary (λ i. f (x + i)) n / 2 ^ a ≡ binary (λ i. f (x + (a + i))) s) parts
    (drop_low (λ i. f (x + i)) a s (λ k l. few (x + k))) in
    let high : binary (λ i. f (x + 64 + i)) 64 * 2 ^ s % 2 ^ 64 ≡ binary (λ i. f (x + 64 + i)) a * 2 ^ s =
    subst (λ (n : ℕ). binary (λ i. f (x + 64 + i)) n * 2 ^ s % 2 ^ n ≡ binary (λ i. f (x + 64 + i)) a * 2 ^ s) parts
    (drop_high (λ i. f (x + 64 + i)) a s (λ k l. few (x + 64 + k))) in
    let whole : binary (λ i. f (x + a + i)) 64 ≡ binary (λ i. f (x + a + (s + i))) a * 2 ^ s + binary (λ i. f (x + a + i)) s =
    subst (λ (n : ℕ). binary (λ i. f (x + a + i)) n ≡ binary (λ i. f (x + a + (s + i))) a * 2 ^ s + binary (λ i. f (x + a + i)) s) turned
    (binary_split (λ i. f (x + a + i)) s a) in
    let next : binary (λ i. f (x + a + (s + i))) a ≡ binary (λ i. f (x + 64 + i)) a =
    binary_same (λ i. f (x + a + (s + i))) (λ i. f (x + 64 + i)) a (λ k l. ap f (omega arith)) in
    let here : binary (λ i. f (x + a + i)) s ≡ binary (λ i. f (x + (a + i))) s =
    binary_same (λ i. f (x + a + i)) (λ i. f (x + (a + i))) s (λ k l. ap f (omega arith)) in
    whole ∙ ap₂ (λ (y z : ℕ). y * 2 ^ s + z) next here ∙ sym (ap₂ (λ (y z : ℕ). y + z) high low)

-- ---- shifts in two steps, where one may be by 64

doubled : (y : ℕ) → y % 2 ^ 64 * 2 ^ 1 % 2 ^ 64 ≡ y * 2 ^ 1 % 2 ^ 64
doubled y = omega arith

pub shl_twice : (x k s : ℕ) → k + 1 ≡ s → x * 2 ^ k % 2 ^ 64 * 2 ^ 1 % 2 ^ 64 ≡ x * 2 ^ s % 2 ^ 64
shl_twice x k s e =
    doubled (x * 2 ^ k)
    ∙ ap (λ (y : ℕ). y % 2 ^ 64) (mul_assoc x (2 ^ k) (2 ^ 1) ∙ ap (λ (y : ℕ). x * y) (sym (pow-add 2 k 1) ∙ ap (λ (y : ℕ). 2 ^ y) e))

-- the n low bits of a number as the highest of 64
pub bits_high : (f : ℕ → ℕ) (n : ℕ) → n < 64 → Bits f 64 → binary f 64 * 2 ^ (63 - n) % 2 ^ 64 * 2 ^ 1 % 2 ^ 64 ≡ binary f n * 2 ^ (64 - n)
bits_high f n h few =
    let parts : n + (64 - n) ≡ 64 = omega arith in
    shl_twice (binary f 64) (63 - n) (64 - n) (omega arith)
    ∙ subst (λ (m : ℕ). binary f m * 2 ^ (64 - n) % 2 ^ m ≡ binary f n * 2 ^ (64 - n)) parts
    (drop_high f n (64 - n) (λ k l. few k (omega arith)))

pub few_high : (f : ℕ → ℕ) (n : ℕ) → n < 64 → Bits f n → binary f n * 2 ^ (63 - n) % 2 ^ 64 * 2 ^ 1 % 2 ^ 64 ≡ binary f n * 2 ^ (64 - n)
few_high f n h few =
    shl_twice (binary f n) (63 - n) (64 - n) (omega arith) ∙ shl_exact n (64 - n) 64 (binary_lt f n few) (omega arith)

-- the sum of the two parts of a word fits it
pub joined_fits : (above bits s : ℕ) → 1 ≤ s → s ≤ 64 → bits < 2 ^ 64 → above * 2 ^ s % 2 ^ 64 + bits / 2 ^ (64 - s) < 2 ^ 64
joined_fits above bits s pos most fits =
    let a = 64 - s in
    let parts : 64 - s + s ≡ 64 = omega arith in
    let turned : s + (64 - s) ≡ 64 = omega arith in
    let moved : above * 2 ^ s % 2 ^ 64 ≡ above % 2 ^ a * 2 ^ s =
    subst (λ (n : ℕ). above * 2 ^ s % 2 ^ n ≡ above % 2 ^ a * 2 ^ s) parts (move_high above a s) in
    let room : suc (above % 2 ^ a) * 2 ^ s ≤ 2 ^ a * 2 ^ s = mul-le-mul_right (2 ^ s) (mod-lt above (pow_pos a)) in
    let word : 2 ^ a * 2 ^ s ≡ 2 ^ 64 = sym (pow-add 2 a s) ∙ ap (λ (n : ℕ). 2 ^ n) parts in
    let low : bits / 2 ^ a < 2 ^ s = shr_lt s a (subst (λ (n : ℕ). bits < 2 ^ n) (sym turned) fits) in
    omega (arith, moved, room, word, low, suc-mul (above % 2 ^ a) (2 ^ s))
