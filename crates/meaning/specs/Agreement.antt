-- Kinds 4 and 8 agree on which totals are reached; and the two ways of kind 1 agree on all but the table.
-- Assumes nothing.
use Rattle.std.specs.Prelude.{◌≡◌, ◌↔◌, ℕ, ◌≤◌, Bool, true, List}
use Rattle.meaning.specs.Says.{Answer}
use Rattle.meaning.specs.Says as Says
use Rattle.meaning.specs.Lists.{at}
use Rattle.meaning.specs.Slices.{Holds}
use Rattle.meaning.specs.Counting.{Counted}
use Rattle.meaning.specs.Cells.{no_way}
use Rattle.meaning.specs.Sums.{bit}

-- an answer that is no refusal with one of 1 to 6
unfoldable pub GetsPast6 : Answer → Type 0
GetsPast6 a = (r : ℕ) → 1 ≤ r → r ≤ 6 → ¬ (a ≡ Says.Refused r)

-- a cell that isn't the mark for no way
unfoldable pub Unmarked : List ℕ → ℕ → Type 0
Unmarked cells t = ¬ (at cells t ≡ no_way)

-- what kind 4 answers and leaves in the words, beside what kind 8 answers and leaves in the cells, with the totals from 0 to C: bit t is set exactly
-- where cell t isn't the mark; yes exactly where kind 8 isn't refused with 7; and totals is the number of cells that aren't the mark
pub record Agreed (C : ℕ) (words : List ℕ) (four : Answer) (cells : List ℕ) (eight : Answer) : Type 0 where
  pub bits : (t : ℕ) → t ≤ C → (bit words t ≡ 1) ↔ Unmarked cells t
  pub yes : Bool
  pub totals : ℕ
  pub answer : four ≡ Says.Sums yes totals
  pub yes_unless_7 : (yes ≡ true) ↔ (¬ (eight ≡ Says.Refused 7))
  pub how_many : Counted (λ (t : ℕ). (t ≤ C) × Unmarked cells t) totals

-- two calls give one answer, value, weight and refusals too, and write the same picks; where none are written, `picks` is empty
pub record SameAnswer (a a' : Answer) (before after before' after' : List ℕ) : Type 0 where
  pub answer : a ≡ a'
  pub picks : List ℕ
  pub in_first : Holds picks before after
  pub in_second : Holds picks before' after'
