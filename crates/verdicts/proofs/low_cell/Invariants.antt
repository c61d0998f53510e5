-- `verdicts::low_cell` meets its contract: at every way out, rule 14 is kept at every cell before.
use Prim.Native.Nat.{◌-◌}
use Rattle.meaning.specs.Bytes.{numbers_in}
use Rattle.verdicts.specs.Asked.{certified, knapsack_in}
use Rattle.verdicts.proofs.LowCells.{Narrowed, RowsKept}
use Rattle.verdicts.proofs.low_cell.Given as goal

abbrev pub invariant-budgets : goal.invariant-budgets
invariant-budgets l = Narrowed (knapsack_in l.job.kind) (certified l.job) (numbers_in l.cells) l.found l.from l.last l.kept l.end

abbrev pub decreases-budgets : goal.decreases-budgets
decreases-budgets l = l.end - l.kept

abbrev pub invariant-rows : goal.invariant-rows
invariant-rows l = RowsKept l.job.kind (certified l.job) (numbers_in l.cells) l.found l.from l.count
