-- `rows::raise_stretch` meets its contract: the cells so far are swept by the new ones w places before them (`sweeping_more`), and the row stays
-- capped (`capped_raised`).
use native.Mathlib.Omega.{arith}
use lib.ListN.{length}
use Rattle.rows.specs.Rows.{raised_by}
use Rattle.rows.proofs.Stores.{sweeping_none, sweeping_more, sweeping_all, capped_raised}
use Rattle.rows.proofs.raise_stretch.Goals as goal

pub loop-c-init : goal.loop-c-init
loop-c-init c = let a = c.args in (sweeping_none (raised_by a.v) a.row.now a.w a.from a.to, c.requires.v_bound.1.1)

pub loop-c-preserved : goal.loop-c-preserved
loop-c-preserved c =
    let a = c.args in
    let l = c.loop-c in (
      sweeping_more (raised_by a.v) a.row.now a.w a.from a.to c.requires.le_w.0 c.requires.le_w.1.0 l.c l.row
          c.loop-c-test.true l.invariant.0 c.max.result c.requires.le_w.1.1.1 c.max.ensures,
      capped_raised l.row l.c c.max.result a.w a.v (length a.row.now)
          (omega arith) (omega arith) (omega arith) c.requires.v_bound.0 l.invariant.1 c.max.ensures,
    )

pub returns : goal.returns
returns c =
    let a = c.args in
    let l = c.loop-c in
    (sweeping_all (raised_by a.v) a.row.now a.w a.from a.to l.c l.row (omega arith) l.invariant.0, l.invariant.1)
