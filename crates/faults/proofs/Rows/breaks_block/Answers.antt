-- `Rows::breaks_block` meets its contract, column by column.
use Rattle.faults.proofs.Blocks.{columns_next}
use Rattle.faults.proofs.Rows.breaks_block.Goals as goal

pub loop-b-preserved : goal.loop-b-preserved
loop-b-preserved c = columns_next _ _ _ _ _ _ _ _ _ c.loop-b.invariant (c.breaks_column.ensures.kept c.if-breaks_column.false)
