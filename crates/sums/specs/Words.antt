-- Bits alone: the words of totals as they are filled, label by label, and cut off at the budget.
-- Assumes nothing.
use Rattle.std.specs.Prelude.{◌≡◌, ℕ, ◌-◌, ◌*◌, ◌≤◌, ◌<◌, max, Bool, List, [], eqb}
use Rattle.meaning.specs.Says.{Answer}
use Rattle.meaning.specs.Lists.{at}
use Rattle.meaning.specs.Job.{Job}
use Rattle.meaning.specs.Sums.{bit, BitTable}
use Rattle.meaning.specs.Answers.{answer_numbers}
use Rattle.meaning.specs.Solved.{Summed}
use Rattle.rows.specs.Rows.{FirstAlone}
use Rattle.rows.specs.Rounds.{LabelByLabel}

-- bit t is set
unfoldable pub is_set : List ℕ → ℕ → Bool
is_set words t = eqb (bit words t) 1

-- t is s with a label of weight w added in the words from lo to len - 1: a bit is set there if it was, or if the bit of w less was.
-- The words below lo are kept
pub record Added (s t : List ℕ) (w lo len : ℕ) : Type 0 where
  pub short : (u : ℕ) → 64 * lo ≤ u → u < 64 * len → u < w → bit t u ≡ bit s u
  pub long : (u : ℕ) → 64 * lo ≤ u → u < 64 * len → w ≤ u → bit t u ≡ max (bit s u) (bit s (u - w))
  pub below : (m : ℕ) → m < lo → at t m ≡ at s m

-- the `len` words after the first i labels; with none, total 0 alone is reached, which is the lowest bit
abbrev pub Marked : List ℕ → ℕ → ℕ → List ℕ → Type 0
Marked weights len i words = LabelByLabel (FirstAlone 1 0 len) (λ m s t. Added s t (at weights m) 0 len) i words

-- t is s without the totals above the budget
pub record Trimmed (s t : List ℕ) (budget len : ℕ) : Type 0 where
  pub within : (u : ℕ) → u ≤ budget → bit t u ≡ bit s u
  pub above : (u : ℕ) → budget < u → u < 64 * len → bit t u ≡ 0

-- the answer of kind 4, with the words that it is read off
pub record Tabled (j : Job) (a : Answer) (words : List ℕ) : Type 0 where
  pub gives : Summed j (answer_numbers a) []
  pub table : BitTable j words
