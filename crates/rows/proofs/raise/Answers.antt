-- `rows::raise` meets its contract: each cell so far is made of two of the row before, which lies before all stores and is as it was.
use mathlib.Core.Path.{refl}
use Prim.Native.Nat.{◌+◌, ◌-◌}
use native.Mathlib.Omega.{arith}
use Rattle.rows.proofs.Stores.{storing_none, storing_more, storing_all}
use Rattle.rows.proofs.raise.Invariants.{better}
use Rattle.rows.proofs.raise.Goals as goal

pub loop-c-init : goal.loop-c-init
loop-c-init c =
    let a = c.args in
    storing_none a.cells.now a.to a.w a.width (better a.cells.now a.from a.w a.v) c.requires.w_le_width.0

pub overflow_add-with-in-loop-c : goal.overflow_add-with-in-loop-c
overflow_add-with-in-loop-c c =
    let k = c.loop-c.c - c.args.w in
    omega (arith, c.loop-c.invariant.stored.before (c.args.from + k) (omega arith), c.requires.by_index k (omega arith))

pub loop-c-preserved : goal.loop-c-preserved
loop-c-preserved c =
    let a = c.args in
    let l = c.loop-c in
    let kept = l.invariant.stored.before in
    storing_more a.cells.now a.to a.w a.width (better a.cells.now a.from a.w a.v) l.c (a.to + l.c) c.max.result l.cells
    c.loop-c-test.true c.requires.w_le_width.1.1 l.invariant refl
    (omega (arith, c.max.ensures, kept (a.from + l.c) (omega arith), kept (a.from + (l.c - a.w)) (omega arith)))

pub returns : goal.returns
returns c =
    let a = c.args in
    let l = c.loop-c in
    storing_all a.cells.now a.to a.w a.width (better a.cells.now a.from a.w a.v) l.c l.cells (omega arith) l.invariant
