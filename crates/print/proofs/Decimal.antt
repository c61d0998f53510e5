-- The digits that `io::decimal` makes are the number in decimal, and no number has more than 20.
-- Assumes nothing.
use Prim.Native.Nat.{ℕ, zero, suc, ◌+◌, ◌-◌, ◌*◌, ◌/◌, ◌%◌, ◌^◌, ◌≤◌, ◌<◌}
use mathlib.Core.Path.{◌≡◌, refl}
use mathlib.Core.Bool.{Bool, true, false}
use mathlib.Core.List.{List, [], ◌∷◌, ◌++◌}
use native.Mathlib.Omega.{arith}
use native.Mathlib.Nat.{pow-suc, div-lt_iff_lt-mul, le-div_iff_mul-le, one-le-pow}
use lib.Dec.{ltb}
use lib.ListN.{length, length-append}
use borrow.Author.Tests.{lt-ltb, le-ltb}
use Rattle.io.specs.Digits.{hex_digit_ascii, last_digits, IsDigitCount}
use Rattle.meaning.specs.Lists.{if}
use Rattle.print.specs.Lines.{decimal_within, decimal_of}

-- a digit's byte
glyph_digit : (d : ℕ) → d < 10 → hex_digit_ascii d ≡ 48 + d
glyph_digit d h = rw (lt-ltb d 10 h)

-- one digit
few : (most n : ℕ) → n < 10 → decimal_within (suc most) n ≡ (48 + n) ∷ []
unfolding decimal_within if
few most n h = rw (lt-ltb n 10 h)

-- the last digit after those before it
many : (most n : ℕ) → 10 ≤ n → decimal_within (suc most) n ≡ decimal_within most (n / 10) ++ ((48 + n % 10) ∷ [])
unfolding decimal_within if
many most n h = rw (le-ltb n 10 h)

-- a number of two digits or more is not below the power of ten with one digit less
not_below : (n k : ℕ) → IsDigitCount 10 1 n (suc (suc k)) → 10 ^ k * 10 ≤ n
not_below n k f =
    let less : suc (suc k) - 1 ≡ suc k = omega arith in
    rw (less, pow-suc 10 k) at (f.2 (omega arith))

at_least_ten : (n k : ℕ) → IsDigitCount 10 1 n (suc (suc k)) → 10 ≤ n
at_least_ten n k f = omega (arith, not_below n k f, one-le-pow k 10 (omega arith))

-- without its last digit a number is below the power of ten with one digit less
below_power : (n k : ℕ) → n < 10 ^ suc k → n / 10 < 10 ^ k
below_power n k h = (div-lt_iff_lt-mul {k = 10} (omega arith)).1 (rw (pow-suc 10 k) at h)

-- without its last digit a number has one digit less
fewest_before : (n k : ℕ) → IsDigitCount 10 1 n (suc (suc k)) → IsDigitCount 10 1 (n / 10) (suc k)
fewest_before n k f = (
  omega arith,
  below_power n (suc k) f.1,
  (λ more.
      let less : suc k - 1 ≡ k = omega arith in
      rw less ((le-div_iff_mul-le {k = 10} (omega arith)).1 (not_below n k f))),
)

-- the fewest digits are those of the number in decimal
digits_decimal : (most n r : ℕ) → n < 10 ^ suc most → IsDigitCount 10 1 n r → last_digits 10 r n ≡ decimal_within (suc most) n
digits_decimal most n zero h f = absurd (omega arith)
digits_decimal most n (suc zero) h f =
    let e : n % 10 ≡ n = omega arith in
    rw (e, glyph_digit n (omega arith), few most n (omega arith))
digits_decimal zero n (suc (suc k)) h f = absurd (omega (arith, at_least_ten n k f))
digits_decimal (suc most) n (suc (suc k)) h f =
    let before = digits_decimal most (n / 10) (suc k) (below_power n (suc most) h) (fewest_before n k f) in
    rw (many (suc most) n (at_least_ten n k f), ← before, glyph_digit (n % 10) (omega arith))

-- so of a number of 64 bits they are fixed
pub digits_told : (n r : ℕ) → n < 18_446_744_073_709_551_616 → IsDigitCount 10 1 n r → last_digits 10 r n ≡ decimal_of n
unfolding decimal_of
digits_told n r h f = digits_decimal 19 n r (omega arith) f

-- ---- how long

shorter : (b : Bool) (xs ys : List ℕ) (k : ℕ) → (b ≡ true → length xs ≤ k) → (b ≡ false → length ys ≤ k) → length (if b xs ys) ≤ k
unfolding if
shorter true xs ys k one other = one refl
shorter false xs ys k one other = other refl

within_most : (most n : ℕ) → length (decimal_within most n) ≤ most
unfolding decimal_within
within_most zero n = omega arith
within_most (suc most) n =
    shorter (ltb n 10) _ _ (suc most) (λ _. omega arith) (λ _. simp length-append (omega (arith, within_most most (n / 10))))

-- no number has more than 20 digits
pub decimal_most : (n : ℕ) → length (decimal_of n) ≤ 20
unfolding decimal_of
decimal_most n = within_most 20 n
