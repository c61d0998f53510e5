-- `verdicts::picked` meets its contract: the sum over the labels so far grows by the next, and stays within 64 bits.
use Rattle.verdicts.proofs.PickedSums.{SumSoFar}
use Rattle.verdicts.proofs.picked.Given as goal

abbrev pub invariant-loop-i : goal.invariant-loop-i
invariant-loop-i l = SumSoFar l.each l.picks l.i l.sum
