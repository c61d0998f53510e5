-- What shifts and `|` do to the bits of a word, and what a store does to the bits of a slice.
-- Assumes nothing.
use mathlib.Core.Path.{◌≡◌, refl, ap, ap₂, sym, subst, ◌∙◌}
use Prim.Native.Nat.{ℕ, suc, ◌+◌, ◌-◌, ◌*◌, ◌/◌, ◌%◌, ◌^◌, ◌≤◌, ◌<◌, max}
use native.Mathlib.Nat.{mod-lt, div-eq_of_lt, lt_of_lt_of_le, mul_assoc}
use native.Mathlib.Omega.{arith}
use mathlib.Core.List.{List}
use lib.Arith.{bin_ind, digits_mod}
use lib.Pow.{pow_pos, pow_mono, pow-add, shr-shr, shl-shr, field, mod-mod-pow}
use lib.Bits.{bit_or, or_shr, or_step, shifted_even}
use lib.ListN.{length, set}
use Rattle.meaning.specs.Lists.{at}
use Rattle.meaning.specs.Sums.{bit}
use Rattle.rows.proofs.Stores.{at_same, at_other}

-- bit k of a word
unfoldable pub bit_of : ℕ → ℕ → ℕ
bit_of x k = x / 2 ^ k % 2

-- ---- of a word

or_low : (a b : ℕ) → bit_or a b % 2 ≡ max (a % 2) (b % 2)
or_low a b = ap (λ (x : ℕ). x % 2) (or_step a b) ∙ digits_mod (bit_or (a / 2) (b / 2)) (omega arith)

pub bit_or_lem : (a b k : ℕ) → bit_of (bit_or a b) k ≡ max (bit_of a k) (bit_of b k)
unfolding bit_of
bit_or_lem a b k = ap (λ (x : ℕ). x % 2) (or_shr a b k) ∙ or_low (a / 2 ^ k) (b / 2 ^ k)

-- three words give the same, whichever two are joined first
pub or_assoc : (a b c : ℕ) → bit_or (bit_or a b) c ≡ bit_or a (bit_or b c)
or_assoc = bin_ind (λ (a : ℕ). (b c : ℕ) → bit_or (bit_or a b) c ≡ bit_or a (bit_or b c))
    (λ b c. refl)
    (λ a half b c.
    or_step (bit_or a b) c
    ∙ ap₂ (λ (x y : ℕ). x * 2 + y)
    (ap (λ (x : ℕ). bit_or x (c / 2)) (or_shr a b 1) ∙ half (b / 2) (c / 2) ∙ ap (bit_or (a / 2)) (sym (or_shr b c 1)))
    (omega (arith, or_low a b, or_low b c))
    ∙ sym (or_step a (bit_or b c)))

-- nothing stands at or above a bound
pub bit_above : (a m k : ℕ) → a < 2 ^ m → m ≤ k → bit_of a k ≡ 0
unfolding bit_of
bit_above a m k h l = ap (λ (x : ℕ). x % 2) (div-eq_of_lt (lt_of_lt_of_le h (pow_mono l)))

-- moved down by s
pub bit_shr : (a s k : ℕ) → bit_of (a / 2 ^ s) k ≡ bit_of a (s + k)
unfolding bit_of
bit_shr a s k = ap (λ (x : ℕ). x % 2) (shr-shr a s k)

-- the m low bits
mod_bit : (a j k : ℕ) → bit_of (a % 2 ^ (j + 1 + k)) k ≡ bit_of a k
unfolding bit_of
mod_bit a j k = ap (λ (x : ℕ). x % 2) (field a (j + 1) k) ∙ mod-mod-pow (a / 2 ^ k) j 1

bit_mod : (a m k : ℕ) → k < m → bit_of (a % 2 ^ m) k ≡ bit_of a k
bit_mod a m k h = subst (λ (n : ℕ). bit_of (a % 2 ^ n) k ≡ bit_of a k) (omega arith) (mod_bit a (m - k - 1) k)

-- moved up by s, as far as a word reaches: the bits from s on are those of the word, and those below are 0
bit_mul : (a s j : ℕ) → bit_of (a * 2 ^ s) (s + j) ≡ bit_of a j
unfolding bit_of
bit_mul a s j = ap (λ (x : ℕ). x % 2) (sym (shr-shr (a * 2 ^ s) s j) ∙ ap (λ (x : ℕ). x / 2 ^ j) (shl-shr a s))

pub bit_shl : (a s k : ℕ) → s ≤ k → k < 64 → bit_of (a * 2 ^ s % 2 ^ 64) k ≡ bit_of a (k - s)
bit_shl a s k h b = bit_mod (a * 2 ^ s) 64 k b ∙ ap (bit_of (a * 2 ^ s)) (omega arith) ∙ bit_mul a s (k - s)

mul_low : (a d k : ℕ) → bit_of (a * 2 ^ (suc d + k)) k ≡ 0
unfolding bit_of
mul_low a d k =
    ap (λ (x : ℕ). a * x / 2 ^ k % 2) (pow-add 2 (suc d) k)
    ∙ ap (λ (x : ℕ). x / 2 ^ k % 2) (sym (mul_assoc a (2 ^ suc d) (2 ^ k)))
    ∙ ap (λ (x : ℕ). x % 2) (shl-shr (a * 2 ^ suc d) k)
    ∙ shifted_even a d

pub bit_shl_low : (a s k : ℕ) → k < s → k < 64 → bit_of (a * 2 ^ s % 2 ^ 64) k ≡ 0
bit_shl_low a s k h b = bit_mod (a * 2 ^ s) 64 k b ∙ subst (λ (n : ℕ). bit_of (a * 2 ^ n) k ≡ 0) (omega arith) (mul_low a (s - k - 1) k)

-- moved up and down again: the d high bits are gone, the others stay
pub cut_low : (x d k : ℕ) → d + k < 64 → bit_of (x * 2 ^ d % 2 ^ 64 / 2 ^ d) k ≡ bit_of x k
cut_low x d k h = bit_shr (x * 2 ^ d % 2 ^ 64) d k ∙ bit_shl x d (d + k) (omega arith) h ∙ ap (bit_of x) (omega arith)

pub cut_high : (x d k : ℕ) → 64 ≤ d + k → bit_of (x * 2 ^ d % 2 ^ 64 / 2 ^ d) k ≡ 0
cut_high x d k h = bit_shr (x * 2 ^ d % 2 ^ 64) d k ∙ bit_above (x * 2 ^ d % 2 ^ 64) 64 (d + k) (mod-lt (x * 2 ^ d) (pow_pos 64)) h

-- ---- of a slice

-- bit k of word i
pub bit_in : (l : List ℕ) (i k u : ℕ) → k < 64 → u ≡ 64 * i + k → bit l u ≡ bit_of (at l i) k
unfolding bit bit_of
bit_in l i k u h e = ap₂ (λ (x y : ℕ). bit_of (at l x) y) (omega arith) (omega arith)

-- words that are the same have the same bits
pub bit_same : (s t : List ℕ) (u : ℕ) → at t (u / 64) ≡ at s (u / 64) → bit t u ≡ bit s u
unfolding bit
bit_same s t u e = rw e

-- a bit of the word that was stored, and of another
pub stored_bit : (l : List ℕ) (i x k u : ℕ) → i < length l → k < 64 → u ≡ 64 * i + k → bit (set l i x) u ≡ bit_of x k
stored_bit l i x k u inside h e = bit_in (set l i x) i k u h e ∙ ap (λ (y : ℕ). bit_of y k) (at_same l i x i inside (omega arith))

pub other_bit : (l : List ℕ) (i x u : ℕ) → ¬ (u / 64 ≡ i) → bit (set l i x) u ≡ bit l u
other_bit l i x u h = bit_same l (set l i x) u (at_other l i x (u / 64) h)
