-- `blocks::lay_stretch` meets its contract: the amounts so far are swept, each by the new cell one size before it.
use native.Mathlib.Omega.{arith}
use Rattle.rows.proofs.Stores.{sweeping_none, sweeping_more, sweeping_all}
use Rattle.blocks.specs.Sizes.{fewer_of}
use Rattle.blocks.proofs.lay_stretch.Goals as goal

pub loop-a-init : goal.loop-a-init
loop-a-init c = let a = c.args in sweeping_none fewer_of a.row.now a.w a.from a.to

pub loop-a-preserved : goal.loop-a-preserved
loop-a-preserved c =
    let a = c.args in
    let l = c.loop-a in
    sweeping_more fewer_of a.row.now a.w a.from a.to c.requires.0 c.requires.1.0 l.a l.row c.loop-a-test.true l.invariant
    c.fewer.result c.requires.1.1.1 c.fewer.ensures

pub returns : goal.returns
returns c =
    let a = c.args in
    let l = c.loop-a in
    sweeping_all fewer_of a.row.now a.w a.from a.to l.a l.row (omega arith) l.invariant
