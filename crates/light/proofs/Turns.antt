-- Eight times eight bits turned, columns for rows, by exchanges of bits.
-- Assumes nothing.
use mathlib.Core.Path.{◌≡◌, refl, sym, ap, ap₂, ◌∙◌}
use Prim.Native.Nat.{ℕ, zero, suc, ◌+◌, ◌-◌, ◌*◌, ◌/◌, ◌%◌, ◌^◌, ◌≤◌, ◌<◌, min}
use native.Mathlib.Nat.{mod-lt, two-pow-succ}
use native.Mathlib.Omega.{arith}
use lib.Arith.{digits_mod}
use lib.Pow.{pow_pos, shr_le}
use lib.Bits.{differ, bit_and, bit_xor, and_step, xor_step, and_shr, xor_shr, and_lt, xor_lt}
use Rattle.rows.proofs.Stores.{by}
use Rattle.rows.proofs.Bits.{bit_of, bit_shr, bit_shl, bit_shl_low}
use Rattle.light.specs.Bits.{binary, spaced, unequal, exchanged, turned}
use Rattle.light.proofs.Binary.{binary_bit, binary_lt, binary_same}

-- 1 where two bits differ
abbrev xor : ℕ → ℕ → ℕ
xor a b = (a - b) + (b - a)

-- ---- bits of a word

bit_few : (x k : ℕ) → bit_of x k ≤ 1
unfolding bit_of
bit_few x k = omega arith

bit_and_lem : (a b k : ℕ) → bit_of (bit_and a b) k ≡ min (bit_of a k) (bit_of b k)
unfolding bit_of
bit_and_lem a b k =
    ap (λ (x : ℕ). x % 2) (and_shr a b k ∙ and_step (a / 2 ^ k) (b / 2 ^ k))
    ∙ digits_mod (bit_and (a / 2 ^ k / 2) (b / 2 ^ k / 2)) (omega arith)

differ_few : (a b : ℕ) → differ a b ≡ xor a b
differ_few zero b = omega arith
differ_few (suc a) zero = omega arith
differ_few (suc a) (suc b) = differ_few a b ∙ omega arith

bit_xor_lem : (a b k : ℕ) → bit_of (bit_xor a b) k ≡ xor (bit_of a k) (bit_of b k)
unfolding bit_of
bit_xor_lem a b k =
    let few = differ_few (a / 2 ^ k % 2) (b / 2 ^ k % 2) in
    ap (λ (x : ℕ). x % 2) (xor_shr a b k ∙ xor_step (a / 2 ^ k) (b / 2 ^ k))
    ∙ digits_mod (bit_xor (a / 2 ^ k / 2) (b / 2 ^ k / 2)) (omega (arith, few))
    ∙ few

bit_zero : (x : ℕ) → bit_of x 0 ≡ x % 2
unfolding bit_of
bit_zero x = omega arith

-- a number is what its bits say
binary_of : (n x : ℕ) → x < 2 ^ n → binary (bit_of x) n ≡ x
unfolding binary
binary_of zero x h = omega arith
binary_of (suc n) x h =
    let others : binary (λ i. bit_of x (suc i)) n ≡ binary (bit_of (x / 2 ^ 1)) n =
    binary_same (λ i. bit_of x (suc i)) (bit_of (x / 2 ^ 1)) n (λ k l. ap (bit_of x) (omega arith) ∙ sym (bit_shr x 1 k)) in
    omega (arith, bit_zero x, others, binary_of n (x / 2 ^ 1) (omega (arith, two-pow-succ n)))

-- ---- an exchange

-- whether a place is s above one of the mask
unfoldable below : ℕ → ℕ → ℕ → ℕ
below mask s p = min (bit_of mask (p - s)) (p + 1 - s)

-- where the bit at place p comes from
unfoldable origin : ℕ → ℕ → ℕ → ℕ
origin mask s p = p + s * bit_of mask p - s * below mask s p

keep : (a : ℕ) → xor (xor a 0) 0 ≡ a
keep a = omega arith

take_above : (a b : ℕ) → a ≤ 1 → b ≤ 1 → xor (xor a (min (xor a b) 1)) 0 ≡ b
take_above zero zero h l = refl
take_above zero (suc zero) h l = refl
take_above zero (suc (suc b)) h l = absurd (omega arith)
take_above (suc zero) zero h l = refl
take_above (suc zero) (suc zero) h l = refl
take_above (suc zero) (suc (suc b)) h l = absurd (omega arith)
take_above (suc (suc a)) b h l = absurd (omega arith)

take_below : (a b : ℕ) → a ≤ 1 → b ≤ 1 → xor (xor a 0) (min (xor b a) 1) ≡ b
take_below zero zero h l = refl
take_below zero (suc zero) h l = refl
take_below zero (suc (suc b)) h l = absurd (omega arith)
take_below (suc zero) zero h l = refl
take_below (suc zero) (suc zero) h l = refl
take_below (suc zero) (suc (suc b)) h l = absurd (omega arith)
take_below (suc (suc a)) b h l = absurd (omega arith)

module _ (x mask s p : ℕ) (inside : p < 64) where
  unequal_bit : (k : ℕ) → bit_of (unequal x mask s) k ≡ min (xor (bit_of x k) (bit_of x (s + k))) (bit_of mask k)
  unfolding unequal
  unequal_bit k =
      bit_and_lem (bit_xor x (x / 2 ^ s)) mask k
      ∙ ap (λ (y : ℕ). min y (bit_of mask k)) (bit_xor_lem x (x / 2 ^ s) k ∙ ap (λ (y : ℕ). xor (bit_of x k) y) (bit_shr x s k))

  -- moved up by s
  moved_none : below mask s p ≡ 0 → bit_of (unequal x mask s * 2 ^ s % 2 ^ 64) p ≡ 0
  unfolding below
  moved_none e =
      by p s
      (λ h. bit_shl_low (unequal x mask s) s p h inside)
      (λ h.
      let none : bit_of mask (p - s) ≡ 0 = omega arith in
      bit_shl (unequal x mask s) s p h inside ∙ unequal_bit (p - s) ∙ omega (arith, none))

  moved_one : below mask s p ≡ 1
      → (s ≤ p) × (bit_of (unequal x mask s * 2 ^ s % 2 ^ 64) p ≡ min (xor (bit_of x (p - s)) (bit_of x p)) 1)
  unfolding below
  moved_one e =
      let h : s ≤ p = omega arith in
      let one : bit_of mask (p - s) ≡ 1 = omega (arith, bit_few mask (p - s)) in
      let here : s + (p - s) ≡ p = omega arith in
      (h, bit_shl (unequal x mask s) s p h inside ∙ unequal_bit (p - s) ∙ rw (here, one) refl)

  exchanged_parts : bit_of (exchanged x mask s) p
      ≡ xor (xor (bit_of x p) (bit_of (unequal x mask s) p)) (bit_of (unequal x mask s * 2 ^ s % 2 ^ 64) p)
  unfolding exchanged
  exchanged_parts =
      bit_xor_lem (bit_xor x (unequal x mask s)) (unequal x mask s * 2 ^ s % 2 ^ 64) p
      ∙ ap (λ (y : ℕ). xor y (bit_of (unequal x mask s * 2 ^ s % 2 ^ 64) p)) (bit_xor_lem x (unequal x mask s) p)

  -- where the mask has at most one of the two places
  exchanged_bit : bit_of mask p + below mask s p ≤ 1 → bit_of (exchanged x mask s) p ≡ bit_of x (origin mask s p)
  unfolding origin
  exchanged_bit one_of_lem =
      by 0 (bit_of mask p)
      (λ set.
      let one : bit_of mask p ≡ 1 = omega arith in
      let none : below mask s p ≡ 0 = omega arith in
      exchanged_parts
      ∙ ap₂ (λ (y z : ℕ). xor (xor (bit_of x p) y) z) (unequal_bit p ∙ ap (min (xor (bit_of x p) (bit_of x (s + p)))) one) (moved_none none)
      ∙ take_above (bit_of x p) (bit_of x (s + p)) (bit_few x p) (bit_few x (s + p))
      ∙ ap (bit_of x) (omega (arith, ap (λ (y : ℕ). s * y) one, ap (λ (y : ℕ). s * y) none)))
      (λ unset.
      let zero-here : bit_of mask p ≡ 0 = omega arith in
      let same : bit_of (unequal x mask s) p ≡ 0 = unequal_bit p ∙ omega (arith, zero-here) in
      by 0 (below mask s p)
      (λ set.
      let one : below mask s p ≡ 1 = omega arith in
      let (light, moved) = moved_one one in
      exchanged_parts
      ∙ ap₂ (λ (y z : ℕ). xor (xor (bit_of x p) y) z) same moved
      ∙ take_below (bit_of x p) (bit_of x (p - s)) (bit_few x p) (bit_few x (p - s))
      ∙ ap (bit_of x) (omega (arith, ap (λ (y : ℕ). s * y) one, ap (λ (y : ℕ). s * y) zero-here)))
      (λ none_of.
      let none : below mask s p ≡ 0 = omega arith in
      exchanged_parts
      ∙ ap₂ (λ (y z : ℕ). xor (xor (bit_of x p) y) z) same (moved_none none)
      ∙ keep (bit_of x p)
      ∙ ap (bit_of x) (omega (arith, ap (λ (y : ℕ). s * y) none, ap (λ (y : ℕ). s * y) zero-here))))

-- ---- the three exchanges

abbrev ones : ℕ → ℕ
ones p = origin 47_851_476_196_393_130 7 p

abbrev pairs : ℕ → ℕ
pairs p = origin 225_176_545_447_116 14 p

abbrev fours : ℕ → ℕ
fours p = origin 4_042_322_160 28 p

-- how far a mask is from having at most one of two places
abbrev clash : ℕ → ℕ → ℕ → ℕ
clash mask s p = bit_of mask p + below mask s p - 1

-- what is wrong at place p: nothing, if the bit there comes from the other side of the diagonal, by exchanges that are proper
unfoldable error_at : ℕ → ℕ
error_at p =
    clash 4_042_322_160 28 p + clash 225_176_545_447_116 14 (fours p) + clash 47_851_476_196_393_130 7 (pairs (fours p))
    + (fours p - 63) + (pairs (fours p) - 63) + xor (ones (pairs (fours p))) (8 * (p % 8) + p / 8)

unfoldable errors : ℕ → ℕ
errors zero = 0
errors (suc n) = error_at n + errors n

errors_at : (n p : ℕ) → errors n ≡ 0 → p < n → error_at p ≡ 0
unfolding errors
errors_at zero p e h = absurd (omega arith)
errors_at (suc n) p e h = by p n (λ l. errors_at n p (omega arith) l) (λ l. let same : n ≡ p = omega arith in rw (← same) (omega arith))

-- all 64 are looked at
no_errors : errors 64 ≡ 0
unfolding errors error_at origin below bit_of
no_errors = refl

each_none : (a b c d e f : ℕ) → a + b + c + d + e + f ≡ 0 → (a ≡ 0) × (b ≡ 0) × (c ≡ 0) × (d ≡ 0) × (e ≡ 0) × (f ≡ 0)
each_none a b c d e f h = (omega arith, omega arith, omega arith, omega arith, omega arith, omega arith)

at_most : (a b : ℕ) → a - b ≡ 0 → a ≤ b
at_most a b e = omega arith

under : (a : ℕ) → a - 63 ≡ 0 → a < 64
under a e = omega arith

equal : (a b : ℕ) → xor a b ≡ 0 → a ≡ b
equal a b e = omega arith

-- so at each the three masks are proper, and the bit comes from where it should
error_facts : (p : ℕ) → error_at p ≡ 0
    → (bit_of 4_042_322_160 p + below 4_042_322_160 28 p ≤ 1) × (bit_of 225_176_545_447_116 (fours p) + below 225_176_545_447_116 14 (fours p) ≤ 1)
    × (bit_of 47_851_476_196_393_130 (pairs (fours p)) + below 47_851_476_196_393_130 7 (pairs (fours p)) ≤ 1)
    × (fours p < 64) × (pairs (fours p) < 64) × (ones (pairs (fours p)) ≡ 8 * (p % 8) + p / 8)
unfolding error_at
error_facts p e =
    let (a, b, c, d, g, k) =
    each_none (clash 4_042_322_160 28 p) (clash 225_176_545_447_116 14 (fours p)) (clash 47_851_476_196_393_130 7 (pairs (fours p)))
    (fours p - 63) (pairs (fours p) - 63) (xor (ones (pairs (fours p))) (8 * (p % 8) + p / 8)) e in
    (at_most _ 1 a, at_most _ 1 b, at_most _ 1 c, under _ d, under _ g, equal _ _ k)

turned_bit : (x p : ℕ) → p < 64 → bit_of (turned x) p ≡ bit_of x (8 * (p % 8) + p / 8)
unfolding turned
turned_bit x p h =
    let right = errors_at 64 p no_errors h in
    let facts = error_facts p right in
    let (first, second, third, small, less, there) = facts in
    exchanged_bit (exchanged (exchanged x 47_851_476_196_393_130 7) 225_176_545_447_116 14) 4_042_322_160 28 p h first
    ∙ exchanged_bit (exchanged x 47_851_476_196_393_130 7) 225_176_545_447_116 14 (fours p) small second
    ∙ exchanged_bit x 47_851_476_196_393_130 7 (pairs (fours p)) less third
    ∙ ap (bit_of x) there

exchanged_lt : (x mask s : ℕ) → x < 2 ^ 64 → mask < 2 ^ 64 → exchanged x mask s < 2 ^ 64
unfolding exchanged unequal
exchanged_lt x mask s h l =
    let t = bit_and (bit_xor x (x / 2 ^ s)) mask in
    let up : x / 2 ^ s < 2 ^ 64 = omega (arith, shr_le x s) in
    let low : t < 2 ^ 64 = and_lt 64 (bit_xor x (x / 2 ^ s)) mask (xor_lt 64 x (x / 2 ^ s) h up) l in
    xor_lt 64 (bit_xor x t) (t * 2 ^ s % 2 ^ 64) (xor_lt 64 x t h low) (mod-lt (t * 2 ^ s) (pow_pos 64))

turned_lt : (x : ℕ) → x < 2 ^ 64 → turned x < 2 ^ 64
unfolding turned
turned_lt x h =
    let first = exchanged_lt x 47_851_476_196_393_130 7 h (omega arith) in
    let second = exchanged_lt (exchanged x 47_851_476_196_393_130 7) 225_176_545_447_116 14 first (omega arith) in
    exchanged_lt (exchanged (exchanged x 47_851_476_196_393_130 7) 225_176_545_447_116 14) 4_042_322_160 28 second (omega arith)

-- ---- a word by its columns

-- four bytes, and twice four
pub four_spaced : (f : ℕ → ℕ) (p a b c d : ℕ) → a ≡ f p → b ≡ f (p + 1) → c ≡ f (p + 2) → d ≡ f (p + 3)
    → a + b * 256 + c * 65536 + d * 16777216 ≡ spaced (λ i. f (p + i)) 4
unfolding spaced
four_spaced f p a b c d e₀ e₁ e₂ e₃ = let first : f (p + 0) ≡ f p = ap f (omega arith) in omega (arith, first)

pub eight_spaced : (f : ℕ → ℕ) (p x y : ℕ) → x ≡ spaced (λ i. f (p + i)) 4 → y ≡ spaced (λ i. f (p + 4 + i)) 4 → x + y * 4294967296 ≡ spaced (λ i. f (p + i)) 8
unfolding spaced
eight_spaced f p x y low high =
    let here : (i : ℕ) → f (p + 4 + i) ≡ f (p + (4 + i)) = λ i. ap f (omega arith) in
    omega (arith, low, high, here 0, here 1, here 2, here 3)

-- eight rows of bytes, each a bit above the one before it, are the bits by columns
pub columns : (f : ℕ → ℕ)
    → spaced (λ i. f (0 + i)) 8 + 2 * (spaced (λ i. f (8 + i)) 8 + 2 * (spaced (λ i. f (16 + i)) 8 + 2 * (spaced (λ i. f (24 + i)) 8
    + 2 * (spaced (λ i. f (32 + i)) 8 + 2 * (spaced (λ i. f (40 + i)) 8 + 2 * (spaced (λ i. f (48 + i)) 8 + 2 * spaced (λ i. f (56 + i)) 8))))))
    ≡ binary (λ q. f (8 * (q % 8) + q / 8)) 64
unfolding binary spaced
columns f = omega arith

pub turned_columns : (f : ℕ → ℕ) (x : ℕ) → ((k : ℕ) → k < 64 → f k ≤ 1) → x ≡ binary (λ q. f (8 * (q % 8) + q / 8)) 64 → turned x ≡ binary f 64
turned_columns f x few e =
    let g : ℕ → ℕ = λ q. f (8 * (q % 8) + q / 8) in
    let bits : (k : ℕ) → k < 64 → g k ≤ 1 = λ k l. few (8 * (k % 8) + k / 8) (omega arith) in
    let small : x < 2 ^ 64 = rw e (binary_lt g 64 bits) in
    sym (binary_of 64 (turned x) (turned_lt x small))
    ∙ binary_same (bit_of (turned x)) f 64
    (λ p h.
    turned_bit x p h
    ∙ ap (λ (y : ℕ). bit_of y (8 * (p % 8) + p / 8)) e
    ∙ binary_bit g 64 (8 * (p % 8) + p / 8) bits (omega arith)
    ∙ ap f (omega arith))
