-- `faults::breaks_at` meets its contract, budget by budget.
use Rattle.meaning.specs.Bytes.{numbers_in}
use Rattle.faults.proofs.Passes.{CountedLow, FoundSoFar}
use Rattle.faults.proofs.breaks_at.Given as goal

abbrev pub invariant-loop-c : goal.invariant-loop-c
invariant-loop-c l = CountedLow (FoundSoFar (numbers_in l.cells) l.prior l.row l.far l.gain) l.low l.c
