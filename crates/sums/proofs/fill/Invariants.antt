-- `sums::fill` meets its contract: total 0 alone with no labels, and then a label more each turn.
use lib.ListN.{length}
use Rattle.meaning.specs.Lists.{at}
use Rattle.rows.specs.Rows.{FirstAlone}
use Rattle.rows.proofs.Rounds.{Rounds}
use Rattle.sums.specs.Words.{Added}
use Rattle.sums.proofs.fill.Given as goal

abbrev pub invariant-loop-i : goal.invariant-loop-i
invariant-loop-i l =
    Rounds (FirstAlone 1 0) (λ len m s t. Added s t (at l.weights m) 0 len) (length l.weights) (length l.initial.words) l.i l.words
