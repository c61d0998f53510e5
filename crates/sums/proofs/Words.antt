-- The words: those of no labels, one label more from the highest word down, and the last word cut off at the budget.
-- Assumes nothing.
use mathlib.Core.Path.{◌≡◌, refl, ap, sym, ◌∙◌}
use Prim.Native.Nat.{ℕ, ◌+◌, ◌-◌, ◌*◌, ◌/◌, ◌%◌, ◌^◌, ◌≤◌, ◌<◌, max}
use native.Mathlib.Omega.{arith}
use mathlib.Core.List.{List}
use lib.Bits.{bit_or}
use lib.ListN.{length, set, length-set}
use Rattle.meaning.specs.Lists.{at}
use Rattle.meaning.specs.Sums.{bit}
use Rattle.rows.specs.Rows.{FirstAlone}
use Rattle.rows.proofs.Stores.{by, at_other}
use Rattle.sums.specs.Words.{Added, Trimmed}
use Rattle.rows.proofs.Bits.{bit_of, bit_or_lem, bit_above, bit_shr, bit_shl, bit_shl_low, cut_low, cut_high}
use Rattle.rows.proofs.Bits.{bit_in, bit_same, stored_bit, other_bit}

-- ---- no labels

-- total 0 alone is reached
pub total_0_set : (l : List ℕ) (len : ℕ) → FirstAlone 1 0 len l → bit l 0 ≡ 1
unfolding bit_of
total_0_set l len d = bit_in l 0 0 0 (omega arith) (omega arith) ∙ ap (λ (x : ℕ). bit_of x 0) d.first

pub other_unset : (l : List ℕ) (len u : ℕ) → FirstAlone 1 0 len l → 0 < u → u < 64 * len → bit l u ≡ 0
other_unset l len u d pos h =
    bit_in l (u / 64) (u % 64) u (omega arith) (omega arith)
    ∙ by 0 (u / 64)
    (λ b. bit_above (at l (u / 64)) 0 (u % 64) (omega (arith, d.others (u / 64) b (omega arith))) (omega arith))
    (λ b.
    let first : u / 64 ≡ 0 = omega arith in
    rw first (bit_above (at l 0) 1 (u % 64) (omega (arith, d.first)) (omega arith)))

-- ---- one label more

-- y is word m of the words s with a label of weight w added
pub record NewWord (s : List ℕ) (w m y : ℕ) : Type 0 where
  pub short : (u : ℕ) → u / 64 ≡ m → u < w → bit_of y (u % 64) ≡ bit s u
  pub long : (u : ℕ) → u / 64 ≡ m → w ≤ u → bit_of y (u % 64) ≡ max (bit s u) (bit s (u - w))

module _ (s : List ℕ) (w len : ℕ) where
  -- one word more
  added_more : (t : List ℕ) (n m y : ℕ) → n ≡ m + 1 → m < length t → Added s t w n len → NewWord s w m y → Added s (set t m y) w m len
  added_more t n m y e inside d new =
      let here : (u : ℕ) → 64 * m ≤ u → u < 64 * n → bit (set t m y) u ≡ bit_of y (u % 64) =
      λ u a b. stored_bit t m y (u % 64) u inside (omega arith) (omega arith) in
      let other : (u : ℕ) → 64 * n ≤ u → bit (set t m y) u ≡ bit t u = λ u a. other_bit t m y u (omega arith) in
      record {
        short = λ u a b l. by u (64 * n) (λ c. here u a c ∙ new.short u (omega arith) l) (λ c. other u c ∙ d.short u c b l);
        long = λ u a b l. by u (64 * n) (λ c. here u a c ∙ new.long u (omega arith) l) (λ c. other u c ∙ d.long u c b l);
        below = λ k h. at_other t m y k (omega arith) ∙ d.below k (omega arith);
      }

  -- the words below those that the label reaches stay
  pub added_all : (t : List ℕ) (lo : ℕ) → 64 * lo ≤ w → Added s t w lo len → Added s t w 0 len
  added_all t lo h d =
      record {
        short = λ u a b l. by u (64 * lo) (λ c. bit_same s t u (d.below (u / 64) (omega arith))) (λ c. d.short u c b l);
        long = λ u a b l. d.long u (omega arith) b l;
        below = λ m l. absurd (omega arith);
      }

-- moved up by whole words
pub new_words : (s : List ℕ) (q m : ℕ) → q ≤ m → NewWord s (64 * q) m (bit_or (at s m) (at s (m - q)))
new_words s q m h = record {
  short = λ u e l. absurd (omega arith);
  long = λ u e l.
      let k = u % 64 in
      let old = bit_in s (m - q) k (u - 64 * q) (omega arith) (omega arith) in
      omega (arith, bit_or_lem (at s m) (at s (m - q)) k, bit_in s m k u (omega arith) (omega arith));
}

-- ---- a label of words and bits

-- a word moved up by r bits, and what of it comes to stand in the word above
abbrev pub up : ℕ → ℕ → ℕ
up x r = x * 2 ^ r % 2 ^ 64

abbrev pub over : ℕ → ℕ → ℕ
over x r = x / 2 ^ (64 - r)

module _ (s : List ℕ) (q r : ℕ) (some : 0 < r) (few : r < 64) where
  -- a word takes the bits of two
  new_bits : (m : ℕ) → q < m → at s (m - q - 1) < 2 ^ 64
      → NewWord s (64 * q + r) m (bit_or (bit_or (at s m) (up (at s (m - q)) r)) (over (at s (m - q - 1)) r))
  new_bits m h narrow =
      let high = at s (m - q) in
      let low = at s (m - q - 1) in
      let w = 64 * q + r in
      record {
        short = λ u e l. absurd (omega arith);
        long = λ u e l.
            let k = u % 64 in
            let own = bit_in s m k u (omega arith) (omega arith) in
            let two = bit_or_lem (at s m) (up high r) k in
            let new = bit_or (bit_or (at s m) (up high r)) (over low r) in
            let three : bit_of new k ≡ max (max (bit s u) (bit_of (up high r) k)) (bit_of low (64 - r + k)) =
            omega (arith, bit_or_lem (bit_or (at s m) (up high r)) (over low r) k, bit_shr low (64 - r) k) in
            by k r
            (λ b. omega (arith, bit_shl_low high r k b (omega arith), bit_in s (m - q - 1) (64 - r + k) (u - w) (omega arith) (omega arith)))
            (λ b.
            let old = bit_in s (m - q) (k - r) (u - w) (omega arith) (omega arith) in
            omega (arith, bit_shl high r k b (omega arith), bit_above low 64 (64 - r + k) narrow (omega arith)));
      }

  -- the lowest word that is reached: the bits of one
  new_lowest : NewWord s (64 * q + r) q (bit_or (at s q) (up (at s 0) r))
  new_lowest =
      let new = bit_or (at s q) (up (at s 0) r) in
      let both : (u : ℕ) → u / 64 ≡ q → bit_of new (u % 64) ≡ max (bit s u) (bit_of (up (at s 0) r) (u % 64)) =
      λ u e. omega (arith, bit_or_lem (at s q) (up (at s 0) r) (u % 64), bit_in s q (u % 64) u (omega arith) (omega arith)) in
      record {
        short = λ u e l. omega (arith, both u e, bit_shl_low (at s 0) r (u % 64) (omega arith) (omega arith));
        long = λ u e l.
            let old = bit_in s 0 (u % 64 - r) (u - (64 * q + r)) (omega arith) (omega arith) in
            omega (arith, both u e, bit_shl (at s 0) r (u % 64) (omega arith) (omega arith));
      }

module _ (s t : List ℕ) (q len n : ℕ) where
  -- what a loop from the highest word down stores in word m, as what it takes are still the old words: of whole words
  pub words_more : (lo m x : ℕ) → lo ≡ m → n ≡ m + 1 → q ≤ m → m < length t → Added s t (64 * q) n len
      → x ≡ bit_or (at t m) (at t (m - q)) → Added s (set t m x) (64 * q) lo len
  words_more lo m x here e h inside d made =
      rw (here, made, d.below m (omega arith), d.below (m - q) (omega arith)) (added_more s (64 * q) len t n m _ e inside d (new_words s q m h))

  module _ (r : ℕ) (some : 0 < r) (few : r < 64) (d : Added s t (64 * q + r) n len) where
    -- of words and bits
    pub bits_more : (lo m x : ℕ) → lo ≡ m → n ≡ m + 1 → q < m → m < length t → at t (m - q - 1) < 2 ^ 64
        → x ≡ bit_or (bit_or (at t m) (up (at t (m - q)) r)) (over (at t (m - q - 1)) r) → Added s (set t m x) (64 * q + r) lo len
    bits_more lo m x here e h inside narrow made =
        let old = d.below in
        rw (here, made, old m (omega arith), old (m - q) (omega arith), old (m - q - 1) (omega arith))
        (added_more s (64 * q + r) len t n m _ e inside d
        (new_bits s q r some few m h (omega (arith, old (m - q - 1) (omega arith)))))

    -- and in the lowest that is reached: those below it stay
    pub bits_all : n ≡ q + 1 → q < length t → Added s (set t q (bit_or (at t q) (up (at t 0) r))) (64 * q + r) 0 len
    bits_all e inside =
        let w = 64 * q + r in
        added_all s w len _ q (omega arith)
        (added_more s w len t n q _ e inside d (rw (d.below q (omega arith), d.below 0 (omega arith)) (new_lowest s q r some few)))

-- a loop from word m₀ - 1 down has come to word m. Of whatever words s the words t₀ were made, the words t are
pub record AddingBits (t₀ : List ℕ) (q r m₀ : ℕ) (t : List ℕ) (m : ℕ) : Type 0 where
  pub reached : q < m
  pub within : m ≤ length t₀
  pub long : length t ≡ length t₀
  pub added : (s : List ℕ) (len : ℕ) → Added s t₀ (64 * q + r) m₀ len → Added s t (64 * q + r) m len

-- no word yet
pub adding_none : (t₀ : List ℕ) (q r m₀ : ℕ) → q < m₀ → m₀ ≤ length t₀ → AddingBits t₀ q r m₀ t₀ m₀
adding_none t₀ q r m₀ h l = record { reached = h; within = l; long = refl; added = λ s len d. d }

module _ (t₀ : List ℕ) (q r m₀ : ℕ) (some : 0 < r) (few : r < 64) (t : List ℕ) (m : ℕ) (d : AddingBits t₀ q r m₀ t m) where
  -- one word more
  pub adding_more : q + 1 < m → at t (m - 1 - q - 1) < 2 ^ 64
      → AddingBits t₀ q r m₀ (set t (m - 1) (bit_or (bit_or (at t (m - 1)) (up (at t (m - 1 - q)) r)) (over (at t (m - 1 - q - 1)) r))) (m - 1)
  adding_more h narrow = record {
    reached = omega arith;
    within = omega (arith, d.within);
    long = simp length-set d.long;
    added = λ s len made.
        bits_more s t q len m r some few (d.added s len made) (m - 1) (m - 1) _ refl (omega arith) (omega arith)
        (omega (arith, d.long, d.within)) narrow refl;
  }

-- ---- the last word cut off

module _ (l : List ℕ) (budget : ℕ) (enough : length l ≡ budget / 64 + 1) where
  -- the last word
  abbrev cut : ℕ
  cut = at l (budget / 64) * 2 ^ (63 - budget % 64) % 2 ^ 64 / 2 ^ (63 - budget % 64)

  pub trimmed : Trimmed l (set l (budget / 64) cut) budget (length l)
  trimmed =
      let spare = 63 - budget % 64 in
      let word = at l (budget / 64) in
      let new : (u : ℕ) → u / 64 ≡ budget / 64 → bit (set l (budget / 64) cut) u ≡ bit_of cut (u % 64) =
      λ u e. stored_bit l (budget / 64) cut (u % 64) u (omega arith) (omega arith) (omega arith) in
      record {
        within = λ u h. by (u / 64) (budget / 64)
            (λ b. other_bit l (budget / 64) cut u (omega arith))
            (λ b.
            new u (omega arith)
            ∙ cut_low word spare (u % 64) (omega arith)
            ∙ sym (bit_in l (budget / 64) (u % 64) u (omega arith) (omega arith)));
        above = λ u h b. new u (omega arith) ∙ cut_high word spare (u % 64) (omega arith);
      }
