-- `knapsack::fill` meets its contract: the rows so far are filled, and the last of them is capped, which the next asks (`filled_capped`).
use Rattle.knapsack.specs.Tables.{limit_of, Filled}
use Rattle.knapsack.proofs.fill.Given as goal

abbrev pub invariant-loop-i : goal.invariant-loop-i
invariant-loop-i l = Filled l.job.weights l.job.values (limit_of l.job.kind l.job.copies) l.width l.i l.cells
