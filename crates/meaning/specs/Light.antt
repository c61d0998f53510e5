-- Kind 1 the light way: a row of best values, and a bit for each label and budget.
-- Assumes nothing.
use Rattle.std.specs.Prelude.{ℕ, suc, ◌+◌, ◌*◌, ◌^◌, ◌≤◌, ◌<◌, List}
use Rattle.meaning.specs.Lists.{at}
use Rattle.meaning.specs.Job.{Job, labels, once}
use Rattle.meaning.specs.Lent.{bit_words}
use Rattle.meaning.specs.Knapsacks.{BestValue, OneRow}
use Rattle.meaning.specs.Sums.{bit, Tells}

-- at budget c, which is not above C, the best value of the labels up to and with label m is above the best without it
pub record Raises (j : Job) (m c : ℕ) : Type 0 where
  pub without : ℕ
  pub with : ℕ
  pub best_without : BestValue once j m c without
  pub best_with : BestValue once j (suc m) c with
  pub above : without < with
  pub within : c ≤ j.budget

-- bit c of label m's own words, which stand after those of the labels before it
unfoldable pub label_bit : Job → List ℕ → ℕ → ℕ → ℕ
label_bit j words m c = bit words (64 * (m * bit_words j) + c)

-- the light table: cell c is the best value of all labels with budget c; bit c of a label is set exactly if the label raises the best value at c,
-- and so is 0 above C; a word has 64 bits and no more
pub record LightTable (j : Job) (cells words : List ℕ) : Type 0 where
  pub best : OneRow once j cells
  pub set : (m c : ℕ) → m < labels j → c < 64 * bit_words j → Tells (Raises j m c) (label_bit j words m c)
  pub narrow : (k : ℕ) → k < labels j * bit_words j → at words k < 2 ^ 64
