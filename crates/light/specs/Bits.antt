-- Cells and bits alone: where a label raises a row, as the bits of numbers.
-- Assumes nothing.
use Rattle.std.specs.Prelude.{◌≡◌, ℕ, zero, suc, ◌+◌, ◌-◌, ◌*◌, ◌/◌, ◌%◌, ◌^◌, ◌≤◌, ◌<◌, max, min, List}
use Rattle.std.specs.Int.Bits.{bit_and, bit_xor}
use Rattle.meaning.specs.Lists.{at}
use Rattle.meaning.specs.Sums.{bit, Tells}
use Rattle.rows.specs.Rows.{Raised, Stored}

-- 1 if y is above x, and 0 if not
abbrev pub rose : ℕ → ℕ → ℕ
rose x y = min 1 (y - x)

-- the first n numbers are 0 or 1
unfoldable pub Few : List ℕ → ℕ → Type 0
Few b n = (k : ℕ) → k < n → at b k ≤ 1

-- the number that has the first n of these bits, lowest first
unfoldable pub binary : (ℕ → ℕ) → ℕ → ℕ
binary f zero = 0
binary f (suc n) = f 0 + 2 * binary (λ i. f (suc i)) n

-- the number that has the first n of these bytes, lowest first
unfoldable pub spaced : (ℕ → ℕ) → ℕ → ℕ
spaced f zero = 0
spaced f (suc n) = f 0 + 256 * spaced (λ i. f (suc i)) n

-- where a bit of the mask differs from the one s places above it
unfoldable pub unequal : ℕ → ℕ → ℕ → ℕ
unequal x mask s = bit_and (bit_xor x (x / 2 ^ s)) mask

-- x with each bit of the mask exchanged for the one s places above it
unfoldable pub exchanged : ℕ → ℕ → ℕ → ℕ
exchanged x mask s = bit_xor (bit_xor x (unequal x mask s)) (unequal x mask s * 2 ^ s % 2 ^ 64)

-- eight times eight bits with columns for rows: ones are exchanged, then pairs, then fours
unfoldable pub turned : ℕ → ℕ
turned x = exchanged (exchanged (exchanged x 47_851_476_196_393_130 7) 225_176_545_447_116 14) 4_042_322_160 28

-- t is s with one of the label added in the n cells from c on, and bit k of r says whether that raised cell c + k
pub record Risen (s t : List ℕ) (c n w v r : ℕ) : Type 0 where
  pub cells : Stored s t 0 c (c + n) (λ k. max (at s k) (at s (k - w) + v))
  pub bits : r ≡ binary (λ i. rose (at s (c + i)) (at s (c + i - w) + v)) n

-- the same in the n cells from w on, whose bits are the highest of 64
pub record RisenHigh (s t : List ℕ) (n w v r : ℕ) : Type 0 where
  pub cells : Stored s t 0 w (w + n) (λ k. max (at s k) (at s (k - w) + v))
  pub bits : r ≡ binary (λ i. rose (at s (w + i)) (at s (w + i - w) + v)) n * 2 ^ (64 - n)

-- t is s with the words below word m written: the next has what is left of a block's bits once the high ones are gone, the others are 0
pub record Lowered (s t : List ℕ) (m bits high : ℕ) : Type 0 where
  pub next : 0 < m → at t (m - 1) ≡ bits * 2 ^ high % 2 ^ 64
  pub others : (k : ℕ) → suc k < m → at t k ≡ 0
  pub past : (k : ℕ) → m ≤ k → at t k ≡ at s k

-- t is the row s with one of the label added wherever that is more; a bit of the `len` words is set exactly where it is, and is 0 past the row
pub record RisenAll (s t words : List ℕ) (w v width len : ℕ) : Type 0 where
  pub raised : Raised (at s) (at s) (at t) w v width
  pub set : (c : ℕ) → c < width → Tells (at s c < at t c) (bit words c)
  pub above : (c : ℕ) → width ≤ c → c < 64 * len → bit words c ≡ 0
  pub narrow : (m : ℕ) → m < len → at words m < 2 ^ 64
