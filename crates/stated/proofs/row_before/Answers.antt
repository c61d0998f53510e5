-- `stated::row_before` meets its contract.
use native.Mathlib.Omega.{arith}
use borrow.Author.Tests.{le-leb, lt-leb}
use Rattle.meaning.specs.Lists.{if}
use Rattle.stated.proofs.row_before.Goals as goal

pub returns-then-budget-w : goal.returns-then-budget-w
unfolding if
returns-then-budget-w c = let a = c.args in rw (lt-leb a.w a.budget c.if-budget-w.true) (omega arith)

pub returns : goal.returns
unfolding if
returns c =
    let a = c.args in
    rw (le-leb a.w a.budget (omega arith)) (omega (arith, c.requires (omega arith)))
