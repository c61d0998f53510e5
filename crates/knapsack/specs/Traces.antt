-- Cells alone: how the picks of kind 3 are read off its row.
-- Assumes nothing.
use Rattle.std.specs.Prelude.{ℕ, Bool, List, length}
use Rattle.meaning.specs.Lists.{at}
use Rattle.meaning.specs.Orders.{first_most}
use Rattle.rows.specs.Rows.{leads_on}
use Rattle.rows.specs.Traces.{Trace}

-- kind 3: one more of label m leads on from budget c
abbrev pub leads_along : (ℕ → ℕ) → List ℕ → List ℕ → ℕ → ℕ → Bool
leads_along row weights values m c = leads_on row (at weights m) (at values m) c

-- kind 3: the trace along the labels, from label 0 at the budget. All counts are settled, and c of the budget is left
unfoldable pub TraceAlong : (ℕ → ℕ) → List ℕ → List ℕ → ℕ → ℕ → List ℕ → Type 0
TraceAlong row weights values budget c picks =
    Trace first_most (leads_along row weights values) weights (length weights) budget (length weights) c picks
