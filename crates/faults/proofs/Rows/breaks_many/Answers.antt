-- `Rows::breaks_many` meets its contract, block by block.
use Rattle.std.proofs.Common.{arith}
use Rattle.faults.proofs.Finding.{finds_high}
use Rattle.faults.proofs.Blocks.{blocks_next, blocks_all}
use Rattle.faults.proofs.Rows.breaks_many.Goals as goal

pub loop-base-preserved : goal.loop-base-preserved
loop-base-preserved c = blocks_next _ _ _ _ _ _ _ _ c.loop-base.invariant (c.breaks_block.ensures.kept c.if-breaks_block.false)

pub returns : goal.returns
returns c = finds_high (blocks_all _ _ _ _ _ _ _ _ c.requires.copies_fit.weighs (omega arith) c.loop-base.invariant)

-- after the last block
pub returns-else-breaks_block : goal.returns-else-breaks_block
returns-else-breaks_block c =
    finds_high (blocks_all _ _ _ _ _ _ _ _ c.requires.copies_fit.weighs (omega arith)
    (blocks_next _ _ _ _ _ _ _ _ c.loop-base.invariant (c.breaks_block.ensures.kept c.if-breaks_block.false)))
