-- `blocks::count` meets its contract: the amounts so far are swept, each by the new ways one size before it.
use native.Mathlib.Omega.{arith}
use lib.ListN.{length}
use Rattle.rows.proofs.Stores.{sweeping_none, sweeping_more, sweeping_all}
use Rattle.blocks.specs.Sizes.{ways_of}
use Rattle.blocks.proofs.count.Goals as goal

pub loop-a-init : goal.loop-a-init
loop-a-init c = let a = c.args in sweeping_none ways_of a.words.now a.w a.w (length a.words.now)

pub loop-a-preserved : goal.loop-a-preserved
loop-a-preserved c =
    let a = c.args in
    let l = c.loop-a in
    sweeping_more ways_of a.words.now a.w a.w (length a.words.now) c.requires (omega arith) l.a l.words (omega arith) l.invariant
    c.ways_of.result (omega arith) c.ways_of.ensures

pub returns : goal.returns
returns c =
    let a = c.args in
    let l = c.loop-a in
    sweeping_all ways_of a.words.now a.w a.w (length a.words.now) l.a l.words (omega arith) l.invariant
