-- `behind::fill` meets its contract: total 0 alone with no labels, and then a label more each turn.
use Prim.Native.Nat.{suc}
use lib.ListN.{length}
use Rattle.meaning.specs.Lists.{at}
use Rattle.meaning.specs.Cells.{no_way}
use Rattle.rows.specs.Rows.{Joined, FirstAlone}
use Rattle.rows.proofs.Rounds.{Rounds}
use Rattle.behind.specs.Firsts.{first_by}
use Rattle.behind.proofs.fill.Given as goal

abbrev pub invariant-loop-i : goal.invariant-loop-i
invariant-loop-i l =
    Rounds (FirstAlone 0 no_way) (λ wide m s t. Joined (first_by (suc m)) (at s) (at s) (at t) (at l.weights m) wide) (length l.weights)
    (length l.initial.row) l.i l.row
