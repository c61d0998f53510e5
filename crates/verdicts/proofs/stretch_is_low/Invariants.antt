-- `verdicts::stretch_is_low` meets its contract: the labels before are at fault nowhere.
use Rattle.meaning.specs.Bytes.{numbers_in}
use Rattle.verdicts.proofs.LowRows.{LabelsKept}
use Rattle.verdicts.proofs.stretch_is_low.Given as goal

abbrev pub invariant-loop-i : goal.invariant-loop-i
invariant-loop-i l = LabelsKept (numbers_in l.cells) l.from l.end (l.job.weights) (l.job.values) l.i
