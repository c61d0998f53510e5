-- Kinds 1 to 3: fitting selections, the best of them, and the table.
-- Assumes nothing.
use Rattle.std.specs.Prelude.{◌≡◌, ℕ, ◌+◌, ◌*◌, ◌≤◌, ◌<◌, List, length}
use Rattle.meaning.specs.Lists.{at, total}
use Rattle.meaning.specs.Job.{Job, labels, Knapsack, once, limited, free}
use Rattle.meaning.specs.Orders.{Order, last_least, first_most, Chosen}

-- a label may be picked x times: at most once; at most as often as it has copies; any number of times
unfoldable pub MayPick : Knapsack → ℕ → ℕ → Type 0
MayPick once copies x = x ≤ 1
MayPick limited copies x = x ≤ copies
MayPick free copies x = Unit

-- p is a selection of the first i labels: a count for each, none more than it may be
pub record Selection (k : Knapsack) (j : Job) (i : ℕ) (p : List ℕ) : Type 0 where
  pub one_each : length p ≡ i
  pub allowed : (m : ℕ) → m < i → MayPick k (at j.copies m) (at p m)

-- it fits the budget c: its weights, times its picks, sum to at most c
pub record Fits (k : Knapsack) (j : Job) (i c : ℕ) (p : List ℕ) : Type 0 where
  pub selection : Selection k j i p
  pub weight : total j.weights p ≤ c

-- its value is the greatest over all fitting selections
pub record Best (k : Knapsack) (j : Job) (i c : ℕ) (p : List ℕ) : Type 0 where
  pub fits : Fits k j i c p
  pub greatest : (q : List ℕ) → Fits k j i c q → total j.values q ≤ total j.values p

-- the best value of the first i labels with budget c is v
pub record BestValue (k : Knapsack) (j : Job) (i c v : ℕ) : Type 0 where
  pub picks : List ℕ
  pub best : Best k j i c picks
  pub value : v ≡ total j.values picks

-- kinds 1 and 2: smallest read from the last label to the first; kind 3: label 0's count as great as it can be, and so on
unfoldable pub order_of : Knapsack → Order
order_of once = last_least
order_of limited = last_least
order_of free = first_most

-- the picks of the first i labels with budget c: of the best selections, the one that the order chooses
unfoldable pub BestPicks : Knapsack → Job → ℕ → ℕ → List ℕ → Type 0
BestPicks k j i c p = Chosen (order_of k) i (Best k j i c) p

-- i(C+1)+c: the number of the cell for the first i labels and budget c
unfoldable pub cell_number : Job → ℕ → ℕ → ℕ
cell_number j i c = i * (j.budget + 1) + c

-- kind 2, and kind 1 the full way: cell i(C+1)+c is the best value of the first i labels with budget c
unfoldable pub FullTable : Knapsack → Job → List ℕ → Type 0
FullTable k j cells = (i c : ℕ) → i ≤ labels j → c ≤ j.budget → BestValue k j i c (at cells (cell_number j i c))

-- kind 3, and the row of kind 1 the light way: cell c is the best value with budget c
unfoldable pub OneRow : Knapsack → Job → List ℕ → Type 0
OneRow k j cells = (c : ℕ) → c ≤ j.budget → BestValue k j (labels j) c (at cells c)

-- the table of each knapsack, of kind 1 the full one: what a certificate is written from
unfoldable pub ValueTable : Knapsack → Job → List ℕ → Type 0
ValueTable once j cells = FullTable once j cells
ValueTable limited j cells = FullTable limited j cells
ValueTable free j cells = OneRow free j cells
