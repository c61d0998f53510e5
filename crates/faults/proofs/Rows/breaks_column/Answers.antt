-- `Rows::breaks_column` meets its contract: within the block, and into the next one where there is one.
use Rattle.faults.proofs.Finding.{finds_low}
use Rattle.faults.proofs.Blocks.{column_low, column_found}
use Rattle.faults.proofs.Rows.breaks_column.Goals as goal

pub returns-then-breaks_within : goal.returns-then-breaks_within
returns-then-breaks_within c =
    finds_low (column_low _ _ _ _ _ _ _ _ _ c.min.ensures (c.breaks_within.ensures.broken c.if-breaks_within.true))

pub returns : goal.returns
returns c =
    column_found _ _ _ _ _ _ _ _ _ c.min.ensures c.requires.copies_fit.weighs
    (c.breaks_within.ensures.kept c.if-breaks_within.false) _ c.breaks_across.ensures
