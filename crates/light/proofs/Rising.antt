-- A label in some cells of a row and their bits: in a few cells from the last down, and in 64 from the first on by sums that were made before.
-- Assumes nothing.
use mathlib.Core.Path.{◌≡◌, refl, ◌∙◌}
use Prim.Native.Nat.{ℕ, ◌+◌, ◌-◌, ◌*◌, ◌%◌, ◌^◌, ◌≤◌, ◌<◌, max}
use native.Mathlib.Omega.{arith}
use mathlib.Core.List.{List}
use lib.ListN.{length, set, length-set}
use Rattle.meaning.specs.Lists.{at}
use Rattle.rows.specs.Rows.{Stored}
use Rattle.rows.proofs.Stores.{by, at_same, at_other, stored_none, stored_up, stored_down}
use Rattle.light.specs.Bits.{rose, binary, Risen}
use Rattle.light.proofs.Binary.{binary_same, one_more}

module _ (s : List ℕ) (c w v : ℕ) where
  -- what a cell becomes, and whether the label raises cell c + i
  abbrev rule : ℕ → ℕ
  rule k = max (at s k) (at s (k - w) + v)

  abbrev rises : ℕ → ℕ
  rises i = rose (at s (c + i)) (at s (c + i - w) + v)

  -- ---- from the last cell down

  -- n cells are raised down to cell c + k
  pub record Falling (n k : ℕ) (t : List ℕ) (bits : ℕ) : Type 0 where
    pub cells : Stored s t 0 (c + k) (c + n) rule
    pub marks : bits ≡ binary (λ m. rises (k + m)) (n - k)

  pub falling_none : (n : ℕ) → Falling n n s 0
  unfolding binary
  falling_none n =
      let none : n - n ≡ 0 = omega arith in
      record { cells = stored_none s 0 (c + n) (c + n) rule (omega arith); marks = rw none refl }

  -- one cell more: those below it are still the old ones
  pub falling_more : (n k bits b x : ℕ) (t : List ℕ) → n ≤ 64 → 0 < k → k ≤ n → c + n ≤ length t → Falling n k t bits
      → b ≡ rose (at t (c + (k - 1))) (at t (c + (k - 1) - w) + v) → x ≡ max (at t (c + (k - 1))) (at t (c + (k - 1) - w) + v)
      → Falling n (k - 1) (set t (c + (k - 1)) x) (bits * 2 ^ 1 % 2 ^ 64 + b)
  falling_more n k bits b x t short pos within inside d e e' =
      let here : c + k - 1 ≡ c + (k - 1) = omega arith in
      let without = d.cells.before (c + (k - 1)) (omega arith) in
      let less = d.cells.before (c + (k - 1) - w) (omega arith) in
      record {
        cells =
            rw here at
            (stored_down s 0 (c + k) (c + n) rule t (c + (k - 1)) x (omega arith) d.cells (omega arith) (omega arith) (omega arith)
            (e' ∙ rw (here, without, less)));
        marks = one_more rises n (λ i h. omega arith) short k bits within d.marks b pos (e ∙ rw (without, less));
      }

  -- ---- from the first cell on, by sums

  -- cells are raised up to cell c + i
  pub record Raising (i : ℕ) (t bits : List ℕ) : Type 0 where
    pub cells : Stored s t 0 c (c + i) rule
    pub long : length bits ≡ 64
    pub each : (m : ℕ) → m < i → at bits m ≡ rises m

  -- one cell more, whatever the cells before it are by now
  pub raising_more : (i sum x b : ℕ) (t bits : List ℕ) → i < 64 → c + 64 ≤ length t → Raising i t bits → sum ≡ at s (c + i - w) + v
      → b ≡ rose (at t (c + i)) sum → x ≡ max (at t (c + i)) sum → Raising (i + 1) (set t (c + i) x) (set bits i b)
  raising_more i sum x b t bits h inside d with e e' =
      let up : c + i + 1 ≡ c + (i + 1) = omega arith in
      let without : at t (c + i) ≡ at s (c + i) = d.cells.past (c + i) (omega arith) in
      record {
        cells = rw up at (stored_up s 0 c (c + i) rule t (c + i) x (omega arith) d.cells (omega arith) (omega arith) (e' ∙ rw (without, with)));
        long = simp length-set d.long;
        each = λ m l. by m i
            (λ below. at_other bits i b m (omega arith) ∙ d.each m below)
            (λ b. let here : m ≡ i = omega arith in at_same bits i _ m (omega (arith, d.long)) here ∙ e ∙ rw (without, with, here));
      }

  -- all of them
  pub raising_all : (i r : ℕ) (t bits : List ℕ) → i ≡ 64 → Raising i t bits → r ≡ binary (at bits) 64 → Risen s t c 64 w v r
  raising_all i r t bits all d e =
      let last : c + i ≡ c + 64 = omega arith in
      record { cells = rw last at d.cells; bits = e ∙ binary_same (at bits) rises 64 (λ m h. d.each m (omega arith)) }
