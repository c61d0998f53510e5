-- `raised` takes a remainder for the greatest if it is below the bound.
use native.Mathlib.Omega.{arith}
use borrow.Author.Tests.{lt-ltb, le-ltb}
use Rattle.meaning.specs.Lists.{if}
use Rattle.shares.proofs.raised.Goals as goal

pub returns-then-rest-high : goal.returns-then-rest-high
unfolding if
returns-then-rest-high c = let a = c.args in rw (lt-ltb a.rest a.high (omega arith)) c.max.ensures

pub returns-else-rest-high : goal.returns-else-rest-high
unfolding if
returns-else-rest-high c = let a = c.args in rw (le-ltb a.rest a.high (omega arith))
