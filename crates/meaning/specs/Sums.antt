-- Kind 4: the totals that some labels weigh exactly. Behind has kind 8, which names the labels.
-- Assumes nothing.
use Rattle.std.specs.Prelude.{◌≡◌, ℕ, ◌*◌, ◌/◌, ◌%◌, ◌^◌, ◌≤◌, ◌<◌, List}
use Rattle.meaning.specs.Lists.{at, total}
use Rattle.meaning.specs.Counting.{Counted}
use Rattle.meaning.specs.Job.{Job, labels, once}
use Rattle.meaning.specs.Lent.{bit_words}
use Rattle.meaning.specs.Knapsacks.{Selection}

-- p is a selection of the first i labels, each at most once, and weighs exactly t
pub record Weighs (j : Job) (i t : ℕ) (p : List ℕ) : Type 0 where
  pub selection : Selection once j i p
  pub weight : total j.weights p ≡ t

-- some selection does
pub record Reached (j : Job) (i t : ℕ) : Type 0 where
  pub picks : List ℕ
  pub weighs : Weighs j i t picks

-- reached, and not above C
pub record ReachedWithin (j : Job) (i t : ℕ) : Type 0 where
  pub reached : Reached j i t
  pub within : t ≤ j.budget

-- y is 1 where P is so, and 0 where it isn't
pub data Tells (P : Type 0) (y : ℕ) : Type 0 where
  is_so : P → y ≡ 1 → Tells P y
  is_not : ¬ P → y ≡ 0 → Tells P y

-- bit t mod 64 of word floor(t/64), lowest bit 0
unfoldable pub bit : List ℕ → ℕ → ℕ
bit words t = at words (t / 64) / 2 ^ (t % 64) % 2

-- the table of floor(C/64)+1 words: the bit of t is set exactly if t is reached and at most C; a word has 64 bits and no more
pub record BitTable (j : Job) (words : List ℕ) : Type 0 where
  pub set : (t : ℕ) → t < 64 * bit_words j → Tells (ReachedWithin j (labels j) t) (bit words t)
  pub narrow : (m : ℕ) → m < bit_words j → at words m < 2 ^ 64

-- yes (1) or no (0): can some labels weigh exactly C?
unfoldable pub YesOrNo : Job → ℕ → Type 0
YesOrNo j y = Tells (Reached j (labels j) j.budget) y

-- the number of different reachable totals from 0 to C
unfoldable pub TotalCount : Job → ℕ → Type 0
TotalCount j n = Counted (ReachedWithin j (labels j)) n
