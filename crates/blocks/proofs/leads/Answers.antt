-- `blocks::leads` meets its contract: a size above the amount leads nowhere, and for any other the two cells are compared.
use native.Mathlib.Omega.{arith}
use borrow.Author.Tests.{lt-leb, le-leb}
use Rattle.blocks.specs.Sizes.{leaves_fewer}
use Rattle.blocks.proofs.leads.Goals as goal

pub returns-then-a-w : goal.returns-then-a-w
unfolding leaves_fewer
returns-then-a-w c = rw (lt-leb c.args.w c.args.a c.if-a-w.true)

pub returns : goal.returns
unfolding leaves_fewer
returns c = let a = c.args in rw (le-leb a.w a.a (omega arith))
