-- Kind 8: the labels behind a total. Which totals are reached is kind 4's question (Sums); here it is told by how many labels, and by which.
-- Assumes nothing.
use Rattle.std.specs.Prelude.{ℕ, ◌≤◌, List}
use Rattle.meaning.specs.Lists.{at}
use Rattle.meaning.specs.Cells.{LeastShown}
use Rattle.meaning.specs.Job.{Job, labels}
use Rattle.meaning.specs.Orders.{Order, last_least, Chosen}
use Rattle.meaning.specs.Sums.{Weighs, Reached}

-- of i labels, the first x reach t
pub record ReachedBy (j : Job) (i t x : ℕ) : Type 0 where
  pub among : x ≤ i
  pub reached : Reached j x t

-- the table: cell t is the least x such that the first x labels reach t, or `no_way`
unfoldable pub FirstRow : Job → List ℕ → Type 0
FirstRow j cells = (t : ℕ) → t ≤ j.budget → LeastShown (ReachedBy j (labels j) t) (at cells t)

-- smallest read from the last label to the first
unfoldable pub total_order : Order
total_order = last_least

-- the picks of the first i labels for total t: of the selections that weigh exactly t, the one that the order chooses
unfoldable pub Behind : Job → ℕ → ℕ → List ℕ → Type 0
Behind j i t p = Chosen total_order i (Weighs j i t) p
