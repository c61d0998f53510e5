-- `reach_between` finds the least and the greatest of the remainders between two numbers.
use Rattle.shares.specs.Borders.{Reaches}
use Rattle.shares.proofs.Claims.reach_between.Given as goal

abbrev pub invariant-loop-i : goal.invariant-loop-i
invariant-loop-i l = Reaches l.self l.i l.low l.high l.least l.greatest
