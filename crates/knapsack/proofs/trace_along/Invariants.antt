-- `knapsack::trace_along` meets its contract: the trace has come to a label; each turn takes one of it, which weighs something, or passes it.
use Prim.Native.Nat.{◌+◌, ◌-◌, ◌≤◌, ◌<◌}
use lib.ListN.{length}
use Rattle.meaning.specs.Lists.{at}
use Rattle.knapsack.proofs.FreeRow.{AlongTo}
use Rattle.knapsack.proofs.trace_along.Given as goal

abbrev pub invariant-loop-label : goal.invariant-loop-label
invariant-loop-label l = record {
  traced : AlongTo (at l.row) l.weights l.values (length l.row - 1) l.label l.c l.picks;
  some_of : l.label ≤ length l.weights;
  within : l.c < length l.row;
}

abbrev pub decreases-loop-label : goal.decreases-loop-label
decreases-loop-label l = length l.weights - l.label + l.c
