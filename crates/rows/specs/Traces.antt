-- How counts are read off a row, or off rows, label by label, in the order in which the counts are settled.
-- Assumes nothing.
use Rattle.std.specs.Prelude.{◌≡◌, ℕ, suc, ◌+◌, ◌-◌, ◌*◌, ◌<◌, Bool, true, false, List, [], ◌∷◌, length, set}
use Rattle.meaning.specs.Lists.{at}
use Rattle.meaning.specs.Orders.{Order, last_least, first_most, last_most}
use Rattle.rows.specs.Rows.{Least}

-- of n labels, the one whose count is settled after k others
unfoldable pub turn_of : Order → ℕ → ℕ → ℕ
turn_of last_least n k = n - suc k
turn_of first_most n k = k
turn_of last_most n k = n - suc k

-- the trace through the labels from the budget. It has settled the counts of k labels, and c of the budget is left; `picks` are the counts
-- so far, 0 for labels still to come. One more of the label whose turn it is is taken wherever it leads on
pub data Trace (o : Order) (leads : ℕ → ℕ → Bool) (weights : List ℕ) (n budget : ℕ) : ℕ → ℕ → List ℕ → Type 0 where
  start : {picks : List ℕ} → length picks ≡ n → ((m : ℕ) → m < n → at picks m ≡ 0) → Trace o leads weights n budget 0 budget picks
  taken : {k c : ℕ} {picks : List ℕ} → Trace o leads weights n budget k c picks → k < n → leads (turn_of o n k) c ≡ true
      → Trace o leads weights n budget k (c - at weights (turn_of o n k)) (set picks (turn_of o n k) (suc (at picks (turn_of o n k))))
  passed : {k c : ℕ} {picks : List ℕ} → Trace o leads weights n budget k c picks → k < n → leads (turn_of o n k) c ≡ false
      → Trace o leads weights n budget (suc k) c picks

-- the trace back through rows of values, from row n at the budget. It has come to row i with budget c left, and `found` are the
-- counts of the labels from i on, each the least that its row leaves
pub data TraceBack (row : ℕ → ℕ → ℕ) (weights values : List ℕ) (n budget : ℕ) : ℕ → ℕ → List ℕ → Type 0 where
  begin : TraceBack row weights values n budget n budget []
  back : {i c x rest : ℕ} {found : List ℕ} → TraceBack row weights values n budget (suc i) c found
      → Least (row i) (at weights i) (at values i) c (row (suc i) c) x → rest + at weights i * x ≡ c
      → TraceBack row weights values n budget i rest (x ∷ found)
