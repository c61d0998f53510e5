-- `stated::if_light` meets its contract: its test is the definition's.
use mathlib.Core.Path.{refl}
use native.Mathlib.Nat.{le_refl}
use Prim.Native.Nat.{zero-le}
use native.Mathlib.Omega.{arith}
use borrow.Author.Tests.{le-leb, lt-leb}
use Rattle.meaning.specs.Lists.{if}
use Rattle.stated.proofs.if_light.Goals as goal

pub returns-then-budget-w : goal.returns-then-budget-w
unfolding if
returns-then-budget-w c = let a = c.args in (rw (lt-leb a.w a.budget c.if-budget-w.true) refl, zero-le)

pub returns : goal.returns
unfolding if
returns c = let a = c.args in (rw (le-leb a.w a.budget (omega arith)) refl, le_refl a.x)
