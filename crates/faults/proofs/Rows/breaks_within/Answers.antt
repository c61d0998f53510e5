-- `Rows::breaks_within` meets its contract, cell by cell up the column.
use Rattle.std.proofs.Common.{arith}
use Rattle.faults.proofs.Finding.{finds_low, finds_high}
use Rattle.faults.proofs.Within.{low_here, passed_next, all_passed}
use Rattle.faults.proofs.Rows.breaks_within.Goals as goal

pub returns-then-cell-best : goal.returns-then-cell-best
returns-then-cell-best c =
    finds_low (low_here _ _ _ _ _ _ _ _ _ c.loop-c.invariant.1 _ _ _ c.cell.ensures.0 c.cell-in-loop-c.ensures.0
    c.max-best.ensures (omega arith) c.if-cell-best.true)

pub loop-c-preserved : goal.loop-c-preserved
loop-c-preserved c = (
  omega arith,
  passed_next _ _ _ _ _ _ _ _ _ c.loop-c.invariant.1 _ _ _ c.cell.ensures.0 c.cell-in-loop-c.ensures.0
      c.max-best.ensures c.if-cell-best.false,
)

pub returns : goal.returns
returns c = finds_high (all_passed _ _ _ _ _ _ _ _ _ (omega arith) c.loop-c.invariant.1)
