-- The ones of a word are its bits that are set: a count by words is the count by bits.
-- Assumes nothing.
use mathlib.Core.Path.{◌≡◌, refl, ap}
use Prim.Native.Nat.{ℕ, zero, suc, ◌+◌, ◌*◌, ◌/◌, ◌%◌, ◌^◌, ◌≤◌, ◌<◌}
use native.Mathlib.Nat.{add-zero, add-suc, mod-lt, mod-eq_of_lt}
use native.Mathlib.Numerals.{one-add}
use native.Mathlib.Omega.{arith}
use mathlib.Core.List.{List}
use lib.Count.{ones, ones_cat, ones-le}
use lib.Dec.{eqb}
use lib.Pow.{pow_pos, mod-pow-add}
use Rattle.meaning.specs.Lists.{at, if, up_to, tally}
use Rattle.meaning.proofs.Tally.{tally_step}
use Rattle.sums.specs.Words.{is_set}
use Rattle.rows.proofs.Bits.{bit_of, bit_in}

-- one bit by itself
one_bit : (d : ℕ) → d < 2 → ones d ≡ if (eqb d 1) 1 0
unfolding ones if
one_bit zero h = refl
one_bit (suc zero) h = refl
one_bit (suc (suc d)) h = absurd (omega arith)

-- the lowest bits of a word, and one more
bit_more : (x k : ℕ) → ones (x % 2 ^ suc k) ≡ ones (x % 2 ^ k) + if (eqb (bit_of x k) 1) 1 0
unfolding bit_of
bit_more x k =
    let d = x / 2 ^ k % 2 in
    rw (← one-add k, mod-pow-add x 1 k) (omega (arith, ones_cat k d (x % 2 ^ k) (mod-lt x (pow_pos k)), one_bit d (omega arith)))

module _ (l : List ℕ) (m : ℕ) where
  -- the words before word m, and the k lowest bits of it
  bits_counted : (k : ℕ) → k ≤ 64 → tally (is_set l) (up_to (64 * m + k)) ≡ tally (is_set l) (up_to (64 * m)) + ones (at l m % 2 ^ k)
  unfolding is_set
  bits_counted zero h = rw add-zero (omega (arith, ones-le 0 (at l m % 2 ^ 0) (mod-lt (at l m) (pow_pos 0))))
  bits_counted (suc k) h =
      rw (add-suc, tally_step (is_set l) (64 * m + k), bit_in l m k (64 * m + k) h refl)
      (omega (arith, bits_counted k (omega arith), bit_more (at l m) k))

  -- the words before word m, and all of it
  pub word_counted : at l m < 2 ^ 64 → tally (is_set l) (up_to (64 * (m + 1))) ≡ tally (is_set l) (up_to (64 * m)) + ones (at l m)
  word_counted narrow =
      let all : 64 * (m + 1) ≡ 64 * m + 64 = omega arith in
      rw all (omega (arith, bits_counted 64 (omega arith), ap ones (mod-eq_of_lt narrow)))
