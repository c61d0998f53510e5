-- The row and the words of bits, label by label, and how the picks are read off the bits.
-- Assumes nothing.
use Rattle.std.specs.Prelude.{◌≡◌, ℕ, zero, suc, ◌+◌, ◌-◌, ◌*◌, ◌^◌, ◌≤◌, ◌<◌, max, min, List, [], ◌∷◌}
use Rattle.meaning.specs.Lists.{at}
use Rattle.meaning.specs.Sums.{bit, Tells}

-- the row of the first i labels, made of the row before it and label i - 1 where the budget holds that: so rows that are gone can be spoken of.
-- `packed` (proofs/Picks) shows that it has the best values
unfoldable pub row_after : List ℕ → List ℕ → ℕ → ℕ → ℕ
row_after ws vs zero c = 0
row_after ws vs (suc i) c = max (row_after ws vs i c) (min 1 (c + 1 - at ws i) * (row_after ws vs i (c - at ws i) + at vs i))

-- after the first i labels: the row, and bit c of the words of label m, of which there are `per`, is set exactly where label m raises its row;
-- past the row it is 0
pub record Lit (ws vs : List ℕ) (width per i : ℕ) (row words : List ℕ) : Type 0 where
  pub cells : (c : ℕ) → c < width → at row c ≡ row_after ws vs i c
  pub set : (m c : ℕ) → m < i → c < width → Tells (row_after ws vs m c < row_after ws vs (suc m) c) (bit words (64 * (m * per) + c))
  pub above : (m c : ℕ) → m < i → width ≤ c → c < 64 * per → bit words (64 * (m * per) + c) ≡ 0
  pub narrow : (k : ℕ) → k < i * per → at words k < 2 ^ 64

-- the trace back through the bits, from label n at the budget. It has come to label i with c of the budget left, and `found` are the picks of
-- the labels from i on, each the bit of its label at what was left
pub data TraceBits (ws words : List ℕ) (per n budget : ℕ) : ℕ → ℕ → List ℕ → Type 0 where
  begun : TraceBits ws words per n budget n budget []
  read_off : {i c x rest : ℕ} {found : List ℕ} → TraceBits ws words per n budget (suc i) c found → x ≡ bit words (64 * (i * per) + c)
      → rest + at ws i * x ≡ c → TraceBits ws words per n budget i rest (x ∷ found)
