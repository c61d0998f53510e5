-- `rows::copy` meets its contract: the cells so far are stored, and the row that is read lies before them, as it was.
use mathlib.Core.Path.{refl}
use Prim.Native.Nat.{◌+◌}
use native.Mathlib.Omega.{arith}
use Rattle.meaning.specs.Lists.{at}
use Rattle.rows.proofs.Stores.{storing_none, storing_more, storing_all}
use Rattle.rows.proofs.copy.Goals as goal

pub loop-c-init : goal.loop-c-init
loop-c-init c = let a = c.args in storing_none a.cells.now a.to 0 a.count (λ k. at a.cells.now (a.from + k)) (omega arith)

pub loop-c-preserved : goal.loop-c-preserved
loop-c-preserved c =
    let a = c.args in
    let l = c.loop-c in
    storing_more a.cells.now a.to 0 a.count (λ k. at a.cells.now (a.from + k)) l.c (a.to + l.c) (at l.cells (a.from + l.c)) l.cells
    c.loop-c-test.true c.requires.1 l.invariant refl (l.invariant.stored.before (a.from + l.c) (omega arith))

pub returns : goal.returns
returns c =
    let a = c.args in
    storing_all a.cells.now a.to 0 a.count (λ k. at a.cells.now (a.from + k)) c.loop-c.c c.loop-c.cells (omega arith) c.loop-c.invariant
