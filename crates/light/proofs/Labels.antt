-- The row and the words of bits, label by label.
-- Assumes nothing.
use mathlib.Core.Path.{◌≡◌, refl, sym, ap, ◌∙◌, subst}
use Prim.Native.Nat.{ℕ, zero, suc, ◌+◌, ◌-◌, ◌*◌, ◌/◌, ◌%◌, ◌^◌, ◌≤◌, ◌<◌, min}
use native.Mathlib.Nat.{zero-mul, one-mul, suc-mul, mul-le-mul_right, mul-le-mul_left, mul-one}
use native.Mathlib.Numerals.{add-one}
use native.Mathlib.Omega.{arith}
use mathlib.Core.List.{List, ◌++◌}
use lib.ListN.{length, take, drop}
use Rattle.meaning.specs.Lists.{at}
use Rattle.meaning.specs.Bounds.{most_value, most_budget}
use Rattle.meaning.specs.Sums.{bit, Tells}
use Rattle.rows.specs.Rows.{Raised, Capped}
use Rattle.rows.proofs.Stores.{by}
use Rattle.rows.proofs.Counts.{raised_capped}
use Rattle.rows.proofs.Parts.{part_of, part_long, put_at, put_before}
use Rattle.rows.proofs.Bits.{bit_in, bit_same}
use Rattle.rows.specs.Bounded.{Bounded}
use Rattle.light.specs.Bits.{RisenAll}
use Rattle.light.specs.Labels.{row_after, Lit}

module _ (ws vs : List ℕ) where
  -- a label more
  pub row_raised : (i width : ℕ) → Raised (row_after ws vs i) (row_after ws vs i) (row_after ws vs (suc i)) (at ws i) (at vs i) width
  unfolding row_after
  row_raised i width = record {
    short = λ c l h. let none : min 1 (c + 1 - at ws i) ≡ 0 = omega arith in rw (none, zero-mul) (omega arith);
    long = λ c l h. let one : min 1 (c + 1 - at ws i) ≡ 1 = omega arith in rw (one, one-mul) refl;
  }

  pub row_capped : (width : ℕ) → Bounded width ws vs → (i : ℕ) → i ≤ length ws → Capped (row_after ws vs i) width
  unfolding row_after Capped
  row_capped width b zero h c l = omega arith
  row_capped width b (suc i) h c l =
      raised_capped (row_after ws vs i) (row_after ws vs (suc i)) (at ws i) (at vs i) width
      (omega (arith, b.cheap i h, mul-le-mul_left most_value (b.heavy i h), mul-one most_value))
      (row_capped width b i (omega arith)) (row_raised i width) c l

  -- a label more fits 32 bits
  pub row_fits : (width : ℕ) → Bounded width ws vs → (i : ℕ) → i < length ws → (k : ℕ) → k + at ws i < width
      → row_after ws vs i k + at vs i < 4294967296
  unfolding Capped most_value most_budget
  row_fits width b i h k l = omega (arith, row_capped width b i (omega arith) k (omega arith), b.cheap i h, b.heavy i h, b.narrow)

  module _ (width per : ℕ) where
    -- the words of a label before label i end before those of label i
    words_before : (m i c : ℕ) → m < i → c < 64 * per → (64 * (m * per) + c) / 64 < i * per
    words_before m i c h l = omega (arith, mul-le-mul_right per h, suc-mul m per)

    -- one label more
    module _ (i from : ℕ) (row row' words part : List ℕ) (wide : width ≤ 64 * per) (here : from ≡ i * per)
        (fits : from + per ≤ length words) (long : length part ≡ per)
        (so_far : Lit ws vs width per i row words) (up : RisenAll row row' part (at ws i) (at vs i) width per) where
      abbrev words' : List ℕ
      words' = take from words ++ (part ++ drop (from + per - from) (drop from words))

      old_bit : (m c : ℕ) → m < i → c < 64 * per → bit words' (64 * (m * per) + c) ≡ bit words (64 * (m * per) + c)
      old_bit m c h l =
          bit_same words words' (64 * (m * per) + c)
          (put_before words from per fits part ((64 * (m * per) + c) / 64) (omega (arith, words_before m i c h l)))

      new_bit : (c : ℕ) → c < 64 * per → bit words' (64 * (i * per) + c) ≡ bit part c
      new_bit c l =
          bit_in words' (from + c / 64) (c % 64) (64 * (i * per) + c) (omega arith) (omega arith)
          ∙ rw (put_at words from per fits part (c / 64) (omega arith)) (sym (bit_in part (c / 64) (c % 64) c (omega arith) (omega arith)))

      new_row : (c : ℕ) → c < width → at row' c ≡ row_after ws vs (suc i) c
      new_row c l = by c (at ws i)
          (λ b. up.raised.short c l b ∙ so_far.cells c l ∙ sym ((row_raised i width).short c l b))
          (λ b. up.raised.long c l b ∙ rw (so_far.cells c l, so_far.cells (c - at ws i) (omega arith)) (sym ((row_raised i width).long c l b)))

      new_set : (c : ℕ) → c < width → Tells (row_after ws vs i c < row_after ws vs (suc i) c) (bit words' (64 * (i * per) + c))
      new_set c l = rw (← so_far.cells c l, ← new_row c l, new_bit c (omega arith)) (up.set c l)

      pub lit_more : Lit ws vs width per (suc i) row' words'
      lit_more = record {
        cells = new_row;
        set = λ m c h l. by m i
            (λ b. rw (old_bit m c b (omega arith)) (so_far.set m c b l))
            (λ b. let same : m ≡ i = omega arith in rw same (new_set c l));
        above = λ m c h l k. by m i
            (λ b. old_bit m c b k ∙ so_far.above m c b l k)
            (λ b. let same : m ≡ i = omega arith in rw same (new_bit c k ∙ up.above c l k));
        narrow = λ k h. by k from
            (λ b. rw (put_before words from per fits part k b) (so_far.narrow k (omega arith)))
            (λ b.
            let place : from + (k - from) ≡ k = omega arith in
            let inside : k - from < per = omega (arith, suc-mul i per) in
            subst (λ (x : ℕ). x < 2 ^ 64) (sym (ap (at words') (sym place) ∙ put_at words from per fits part (k - from) (omega arith)))
            (up.narrow (k - from) inside));
      }

    -- so of n labels, whose words are all that there are
    pub lit_next : (n i : ℕ) (row row' words part : List ℕ) → width ≤ 64 * per → i < n → n * per ≡ length words → Lit ws vs width per i row words
        → length part ≡ length (part_of words (i * per) per)
        → RisenAll row row' part (at ws i) (at vs i) width (length (part_of words (i * per) per))
        → Lit ws vs width per (i + 1) row' (take (i * per) words ++ (part ++ drop (i * per + per - i * per) (drop (i * per) words)))
    lit_next n i row row' words part wide inside all so_far kept up =
        let fits : i * per + per ≤ length words = omega (arith, mul-le-mul_right per inside, suc-mul i per) in
        let long = part_long words (i * per) per fits in
        rw add-one (lit_more i (i * per) row row' words part wide refl fits (kept ∙ long) so_far (rw long at up))
