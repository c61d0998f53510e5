-- `lowered` takes a remainder for the least unless it is below the bound.
use native.Mathlib.Omega.{arith}
use borrow.Author.Tests.{lt-ltb, le-ltb}
use Rattle.meaning.specs.Lists.{if}
use Rattle.shares.proofs.lowered.Goals as goal

pub returns-then-rest-low : goal.returns-then-rest-low
unfolding if
returns-then-rest-low c = let a = c.args in rw (lt-ltb a.rest a.low (omega arith))

pub returns-else-rest-low : goal.returns-else-rest-low
unfolding if
returns-else-rest-low c = let a = c.args in rw (le-ltb a.rest a.low (omega arith)) c.min.ensures
