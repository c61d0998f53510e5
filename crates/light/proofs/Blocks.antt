-- A label in a row and its bits, block by block from the row's end.
-- Assumes nothing.
use mathlib.Core.Path.{◌≡◌, refl, sym, ap, ◌∙◌, subst}
use Prim.Native.Nat.{ℕ, suc, ◌+◌, ◌-◌, ◌*◌, ◌/◌, ◌%◌, ◌^◌, ◌≤◌, ◌<◌, max, min}
use native.Mathlib.Nat.{zero-add, div-eq_of_lt}
use native.Mathlib.Omega.{arith}
use mathlib.Core.List.{List}
use lib.ListN.{length, set, length-set}
use lib.Pow.{pow_pos}
use Rattle.meaning.specs.Lists.{at}
use Rattle.meaning.specs.Sums.{bit, Tells, is_so, is_not}
use Rattle.rows.specs.Rows.{Stored}
use Rattle.rows.proofs.Stores.{by, at_same, at_other, stored_none, stored_each}
use Rattle.rows.proofs.Bits.{bit_of, bit_in, bit_above}
use Rattle.light.specs.Bits.{rose, binary, Risen, RisenHigh, Lowered, RisenAll}
use Rattle.light.proofs.Binary.{binary_bit, binary_same, binary_none, binary_split}
use Rattle.light.proofs.Windows.{window, window_lt, window_joined, bits_high, few_high}

-- ---- the last cells, and the words below them

-- a few cells
pub risen_high : (s t : List ℕ) (n w v r : ℕ) → n < 64 → Risen s t w n w v r → RisenHigh s t n w v (r * 2 ^ (63 - n) % 2 ^ 64 * 2 ^ 1 % 2 ^ 64)
risen_high s t n w v r h d = record {
  cells = d.cells;
  bits = rw d.bits (few_high (λ i. rose (at s (w + i)) (at s (w + i - w) + v)) n h (λ k l. omega arith));
}

-- 64 cells, of which those past the n are as high already as the label makes them
pub risen_over : (s t : List ℕ) (n w v r : ℕ) → n < 64 → 64 ≤ w + n → w + 64 ≤ length s
    → ((c : ℕ) → w + n ≤ c → c < length s → c < w + (w + n) → at s (c - w) + v ≤ at s c)
    → Risen s t w 64 w v r → RisenHigh s t n w v (r * 2 ^ (63 - n) % 2 ^ 64 * 2 ^ 1 % 2 ^ 64)
risen_over s t n w v r h old inside done d = record {
  cells = record {
    cells = λ c l m. d.cells.cells c l (omega arith);
    before = d.cells.before;
    past = λ k l. by k (w + 64)
        (λ b. ap (at t) (sym (zero-add k)) ∙ d.cells.cells k (omega arith) b ∙ omega (arith, done k (omega arith) (omega arith) (omega arith)))
        (λ b. d.cells.past k (omega arith));
  };
  bits = rw d.bits (bits_high (λ i. rose (at s (w + i)) (at s (w + i - w) + v)) n h (λ k l. omega arith));
}

-- ---- the bits of a label

-- whether the label raises the cell of place x, of which the first 64 stand before the row: so a block may start there
unfoldable pub mark : List ℕ → ℕ → ℕ → ℕ → ℕ
mark s w v x = min (rose (at s (x - 64)) (at s (x - 64 - w) + v)) (min (x + 1 - (64 + w)) (64 + length s - x))

least_bit : (r a b : ℕ) → r ≤ 1 → 1 ≤ a → 1 ≤ b → min r (min a b) ≡ r
least_bit r a b h₁ h₂ h₃ = omega arith

module _ (s : List ℕ) (w v : ℕ) where
  mark_few : (x : ℕ) → mark s w v x ≤ 1
  unfolding mark
  mark_few x = omega arith

  mark_in : (x c : ℕ) → x ≡ c + 64 → w ≤ c → c < length s → mark s w v x ≡ rose (at s c) (at s (c - w) + v)
  unfolding mark
  mark_in x c e h l =
      let here : x - 64 ≡ c = omega arith in
      rw here (least_bit (rose (at s c) (at s (c - w) + v)) (x + 1 - (64 + w)) (64 + length s - x) (omega arith) (omega arith) (omega arith))

  -- none where the cell is below the weight, and none past the row
  mark_below : (x : ℕ) → x < 64 + w → mark s w v x ≡ 0
  unfolding mark
  mark_below x h = omega arith

  mark_past : (x : ℕ) → 64 + length s ≤ x → mark s w v x ≡ 0
  unfolding mark
  mark_past x h = omega arith

  -- what a cell becomes
  abbrev rule : ℕ → ℕ
  rule k = max (at s k) (at s (k - w) + v)

  -- 64 of the bits from place x on
  abbrev bits_from : ℕ → ℕ
  bits_from x = window (mark s w v) x

  window_below : (x : ℕ) → x ≤ w → bits_from x ≡ 0
  unfolding window
  window_below x h = binary_none (λ i. mark s w v (x + i)) 64 (λ k l. mark_below (x + k) (omega arith))

  window_past : (x : ℕ) → 64 + length s ≤ x → bits_from x ≡ 0
  unfolding window
  window_past x h = binary_none (λ i. mark s w v (x + i)) 64 (λ k l. mark_past (x + k) (omega arith))

  -- the label in n cells from c on, over a row t that is s up to there
  module _ (t u : List ℕ) (c n : ℕ) (old : Stored s t 0 (c + n) (length s) rule)
      (new : Stored t u 0 c (c + n) (λ k. max (at t k) (at t (k - w) + v))) (within : c + n ≤ length s) where
    same : (k : ℕ) → k < c + n → at t k ≡ at s k
    same k h = old.before k (omega arith)

    more_cells : Stored s u 0 c (length s) rule
    more_cells = record {
      cells = λ k l m. by k (c + n)
          (λ b. new.cells k l b ∙ rw (same k b, same (k - w) (omega arith)))
          (λ b. new.past (0 + k) (omega arith) ∙ old.cells k b m);
      before = λ k l. new.before k l ∙ old.before k (omega arith);
      past = λ k l. new.past k (omega arith) ∙ old.past k l;
    }

    more_bits : w ≤ c → binary (λ i. rose (at t (c + i)) (at t (c + i - w) + v)) n ≡ binary (λ i. mark s w v (c + 64 + i)) n
    more_bits h =
        binary_same (λ i. rose (at t (c + i)) (at t (c + i - w) + v)) (λ i. mark s w v (c + 64 + i)) n
        (λ k l.
        rw (same (c + k) (omega arith), same (c + k - w) (omega arith))
        (sym (mark_in (c + 64 + k) (c + k) (omega arith) (omega arith) (omega arith))))

  -- ---- the whole label

  -- a bit that says whether the label is more says whether the cell rose
  tells : (x y z b : ℕ) → z ≡ max x y → b ≡ rose x y → Tells (x < z) b
  tells x y z b e h = by x y (λ l. is_so (omega arith) (omega arith)) (λ l. is_not (λ m. absurd (omega arith)) (omega arith))

  marked : (t words : List ℕ) (len : ℕ) → length s ≤ 64 * len → Stored s t 0 w (length s) rule
      → ((k : ℕ) → k < len → at words k ≡ bits_from (64 * k + 64)) → RisenAll s t words w v (length s) len
  unfolding window
  marked t words len wide cells each =
      let bit-of : (c : ℕ) → c < 64 * len → bit words c ≡ mark s w v (c + 64) = λ c h.
      bit_in words (c / 64) (c % 64) c (omega arith) (omega arith)
      ∙ ap (λ (y : ℕ). bit_of y (c % 64)) (each (c / 64) (omega arith))
      ∙ binary_bit (λ i. mark s w v (64 * (c / 64) + 64 + i)) 64 (c % 64) (λ k l. mark_few (64 * (c / 64) + 64 + k)) (omega arith)
      ∙ ap (mark s w v) (omega arith) in
      let kept : (c : ℕ) → c < w → at t c ≡ at s c = λ c h. cells.before c (omega arith) in
      let made : (c : ℕ) → w ≤ c → c < length s → at t c ≡ rule c = λ c h l. rw zero-add at (cells.cells c h l) in
      record {
        raised = record { short = λ c l h. kept c h; long = λ c l h. made c h l };
        set = λ c l. by c w
            (λ b. is_not (λ h. absurd (omega (arith, kept c b))) (bit-of c (omega arith) ∙ mark_below (c + 64) (omega arith)))
            (λ b. tells (at s c) (at s (c - w) + v) (at t c) (bit words c) (made c b l)
            (bit-of c (omega arith) ∙ mark_in (c + 64) c refl b l));
        above = λ c l h. bit-of c h ∙ mark_past (c + 64) (omega arith);
        narrow = λ m h. rw (each m h) (window_lt (mark s w v) mark_few (64 * m + 64));
      }

  -- a label that is too heavy raises nothing
  pub risen_none : (words₀ words : List ℕ) (len : ℕ) → length s ≤ w → length s ≤ 64 * len → Stored words₀ words 0 0 len (λ m. 0)
      → RisenAll s s words w v (length s) len
  risen_none words₀ words len heavy wide zeros =
      let none : (k : ℕ) → k < len → at words k ≡ 0 = stored_each words₀ words len (λ m. 0) zeros in
      let no-bit : (c : ℕ) → c < 64 * len → bit words c ≡ 0 = λ c h.
      bit_in words (c / 64) (c % 64) c (omega arith) (omega arith)
      ∙ bit_above (at words (c / 64)) 0 (c % 64) (omega (arith, none (c / 64) (omega arith))) (omega arith) in
      record {
        raised = record { short = λ c l h. refl; long = λ c l h. absurd (omega arith) };
        set = λ c l. is_not (λ h. absurd (omega arith)) (no-bit c (omega arith));
        above = λ c l h. no-bit c h;
        narrow = λ m h. omega (arith, none m h);
      }

  -- ---- block by block

  -- the pass has come down to cell `end`, and to word m of `len`; `above` has the bits of the block above
  pub record Blocks (high len : ℕ) (t words : List ℕ) (m end above : ℕ) : Type 0 where
    pub from : w ≤ end
    pub within : end ≤ length s
    pub place : end + 64 ≡ 64 * m + high
    pub some_of : m ≤ len
    pub long : length t ≡ length s
    pub long_words : length words ≡ len
    pub cells : Stored s t 0 end (length s) rule
    pub bits : above ≡ bits_from (end + 64)
    pub set : (k : ℕ) → m ≤ k → k < len → at words k ≡ bits_from (64 * k + 64)

  pub blocks_none : (words : List ℕ) → w < length s → length words ≡ (length s - 1) / 64 + 1
      → Blocks ((length s - 1) % 64 + 1) (length words) s words (length words) (length s) 0
  blocks_none words light long = record {
    from = omega arith;
    within = omega arith;
    place = omega arith;
    some_of = omega arith;
    long = refl;
    long_words = refl;
    cells = stored_none s 0 (length s) (length s) rule (omega arith);
    bits = sym (window_past (length s + 64) (omega arith));
    set = λ k l h. absurd (omega arith);
  }

  -- a cell that the pass has done is as high already as the label makes it, where the other cell is still the old one
  pub blocks_done : (high len : ℕ) (t words : List ℕ) (m end above : ℕ) → Blocks high len t words m end above
      → (c : ℕ) → end ≤ c → c < length s → c < w + end → at t (c - w) + v ≤ at t c
  blocks_done high len t words m end above d c h l b =
      let made : at t c ≡ rule c = rw zero-add at (d.cells.cells c h l) in
      omega (arith, made, d.cells.before (c - w) (omega (arith, d.from)))

  module _ (high len : ℕ) (t u words : List ℕ) (m end above r x : ℕ) (pos : 1 ≤ high) (most : high ≤ 64)
      (d : Blocks high len t words m end above) where
    -- the word that is joined of this block's bits and those above
    word_of : r ≡ bits_from end → 0 < m → x ≡ above * 2 ^ high % 2 ^ 64 + r / 2 ^ (64 - high) → x ≡ bits_from (64 * (m - 1) + 64)
    word_of is some e =
        let here : 64 * (m - 1) + 64 ≡ end + (64 - high) = omega (arith, d.place) in
        e ∙ rw (d.bits, is, here) (sym (window_joined (mark s w v) mark_few end high pos most))

    word_set : 0 < m → x ≡ bits_from (64 * (m - 1) + 64) → (k : ℕ) → m - 1 ≤ k → k < len → at (set words (m - 1) x) k ≡ bits_from (64 * k + 64)
    word_set some e k l h =
        by (m - 1) k
        (λ b. at_other words (m - 1) x k (omega arith) ∙ d.set k (omega arith) h)
        (λ b.
        let here : m - 1 ≡ k = omega arith in
        at_same words (m - 1) x k (omega (arith, d.some_of, d.long_words)) (omega arith) ∙ e ∙ rw here refl)

    -- one block more
    pub blocks_more : w + 64 ≤ end → Risen t u (end - 64) 64 w v r → length u ≡ length t
        → x ≡ above * 2 ^ high % 2 ^ 64 + r / 2 ^ (64 - high) → Blocks high len u (set words (m - 1) x) (m - 1) (end - 64) r
    unfolding window
    blocks_more h risen kept e =
        let some : 0 < m = omega (arith, d.place) in
        let back : end - 64 + 64 ≡ end = omega arith in
        let old : Stored s t 0 (end - 64 + 64) (length s) rule = rw back d.cells in
        let is : r ≡ bits_from (end - 64 + 64) =
        risen.bits ∙ more_bits t u (end - 64) 64 old risen.cells (omega (arith, d.within)) (omega arith) in
        record {
          from = omega arith;
          within = omega (arith, d.within);
          place = omega (arith, d.place);
          some_of = omega (arith, d.some_of);
          long = kept ∙ d.long;
          long_words = length-set words (m - 1) x ∙ d.long_words;
          cells = more_cells t u (end - 64) 64 old risen.cells (omega (arith, d.within));
          bits = is;
          set = word_set some (word_of (rw back at is) some e);
        }

    -- ---- the last block, and the words below it

    module _ (words' : List ℕ) (short : end < w + 64) (some : 0 < m) (last : RisenHigh t u (end - w) w v r)
        (e : x ≡ above * 2 ^ high % 2 ^ 64 + r / 2 ^ (64 - high)) (low : Lowered (set words (m - 1) x) words' (m - 1) r high) where
      back : w + (end - w) ≡ end
      back = omega (arith, d.from)

      old_cells : Stored s t 0 (w + (end - w)) (length s) rule
      old_cells = rw back d.cells

      -- its bits are the highest of a block whose other cells are below the weight
      last_bits : r ≡ bits_from end
      unfolding window
      last_bits =
          let n = end - w in
          let parts : 64 - n + n ≡ 64 = omega (arith, d.from) in
          let none : binary (λ i. mark s w v (end + i)) (64 - n) ≡ 0 =
          binary_none (λ i. mark s w v (end + i)) (64 - n) (λ k l. mark_below (end + k) (omega (arith, d.from))) in
          let moved : binary (λ i. mark s w v (end + (64 - n + i))) n ≡ binary (λ i. mark s w v (w + 64 + i)) n =
          binary_same (λ i. mark s w v (end + (64 - n + i))) (λ i. mark s w v (w + 64 + i)) n (λ k l. ap (mark s w v) (omega (arith, d.from))) in
          let whole : binary (λ i. mark s w v (end + i)) 64
          ≡ binary (λ i. mark s w v (end + (64 - n + i))) n * 2 ^ (64 - n) + binary (λ i. mark s w v (end + i)) (64 - n) =
          subst (λ (l : ℕ). binary (λ i. mark s w v (end + i)) l ≡ binary (λ i. mark s w v (end + (64 - n + i))) n * 2 ^ (64 - n)
          + binary (λ i. mark s w v (end + i)) (64 - n)) parts (binary_split (λ i. mark s w v (end + i)) (64 - n) n) in
          last.bits
          ∙ ap (λ (y : ℕ). y * 2 ^ (64 - n)) (more_bits t u w n old_cells last.cells (omega (arith, d.within)) (omega arith) ∙ sym moved)
          ∙ omega (arith, whole, none)

      -- the word below it has what is left of them
      next_word : (k : ℕ) → suc k ≡ m - 1 → r * 2 ^ high % 2 ^ 64 ≡ bits_from (64 * k + 64)
      next_word k h =
          let before : end - 64 + 64 ≡ end = omega (arith, d.place) in
          let here : 64 * k + 64 ≡ end - 64 + (64 - high) = omega (arith, d.place) in
          let none : bits_from (end - 64) ≡ 0 = window_below (end - 64) (omega arith) in
          let nothing : bits_from (end - 64) / 2 ^ (64 - high) ≡ 0 = ap (λ (y : ℕ). y / 2 ^ (64 - high)) none ∙ div-eq_of_lt (pow_pos (64 - high)) in
          let joined = window_joined (mark s w v) mark_few (end - 64) high pos most in
          let first : r * 2 ^ high % 2 ^ 64 ≡ bits_from (end - 64 + 64) * 2 ^ high % 2 ^ 64 = rw (before, ← last_bits) refl in
          first ∙ rw here (omega (arith, joined, nothing))

      all_words : (k : ℕ) → k < len → at words' k ≡ bits_from (64 * k + 64)
      all_words k h =
          by k (m - 1)
          (λ b. by (suc k) (m - 1)
          (λ b'. low.others k b' ∙ sym (window_below (64 * k + 64) (omega (arith, d.place))))
          (λ b'.
          let same : suc k ≡ m - 1 = omega arith in
          let place : m - 1 - 1 ≡ k = omega arith in
          rw place at (low.next (omega arith)) ∙ next_word k same))
          (λ b. low.past k b ∙ word_set some (word_of last_bits some e) k b h)

      all_cells : Stored s u 0 w (length s) rule
      all_cells = more_cells t u w (end - w) old_cells last.cells (omega (arith, d.within))

      pub blocks_all : length s ≤ 64 * len → RisenAll s u words' w v (length s) len
      blocks_all wide = marked u words' len wide all_cells all_words
