-- `requests::ascending` meets its contract: the whole test is the test of what is left, from the least number that may come next.
use mathlib.Core.Path.{◌≡◌}
use lib.ListN.{drop}
use Rattle.meaning.specs.Refusals.{ascending_from}
use Rattle.requests.proofs.ascending.Given as goal

abbrev pub invariant-loop-i : goal.invariant-loop-i
invariant-loop-i l = ascending_from 1 l.numbers ≡ ascending_from l.least (drop l.i l.numbers)
