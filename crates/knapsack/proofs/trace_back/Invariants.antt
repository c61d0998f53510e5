-- `knapsack::trace_back` meets its contract: the trace has come back to row i, and the picks from i on are the counts that it found (`trace_more`).
use Prim.Native.Nat.{◌-◌, ◌<◌}
use lib.ListN.{length, drop}
use Rattle.knapsack.specs.Tables.{row_of}
use Rattle.rows.specs.Traces.{TraceBack}
use Rattle.knapsack.proofs.trace_back.Given as goal

abbrev pub invariant-loop-i : goal.invariant-loop-i
invariant-loop-i l = (l.c < l.width)
    × TraceBack (row_of l.cells l.width) l.weights l.values (length l.weights) (l.width - 1) l.i l.c (drop l.i l.picks)
