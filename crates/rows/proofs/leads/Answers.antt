-- `rows::leads` meets its contract: a label that is too heavy leads nowhere, and where it fits the sum does too, since the row is capped.
use Prim.Native.Nat.{◌-◌}
use native.Mathlib.Omega.{arith}
use borrow.Author.Tests.{lt-leb, le-leb}
use Rattle.meaning.specs.Bounds.{most_value, most_budget}
use Rattle.rows.specs.Rows.{Capped, leads_on}
use Rattle.rows.proofs.leads.Goals as goal

pub returns-then-c-w : goal.returns-then-c-w
unfolding leads_on
returns-then-c-w c = rw (lt-leb c.args.w c.args.c c.if-c-w.true)

pub overflow_add-result : goal.overflow_add-result
unfolding Capped most_budget most_value
overflow_add-result c = omega (arith, c.requires.capped (c.args.c - c.args.w) (omega arith))

pub returns : goal.returns
unfolding leads_on
returns c = let a = c.args in rw (le-leb a.w a.c (omega arith))
