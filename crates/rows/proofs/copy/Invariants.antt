-- `rows::copy` meets its contract: the cells so far are stored, and the row that is read lies before them, as it was.
use Prim.Native.Nat.{◌+◌}
use Rattle.meaning.specs.Lists.{at}
use Rattle.rows.proofs.Stores.{Storing}
use Rattle.rows.proofs.copy.Given as goal

abbrev pub invariant-loop-c : goal.invariant-loop-c
invariant-loop-c l = Storing l.initial.cells l.to 0 l.count (λ k. at l.initial.cells (l.from + k)) l.c l.cells
