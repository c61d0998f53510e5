-- `Rows::breaks_block` meets its contract, column by column.
use Rattle.meaning.specs.Bytes.{numbers_in}
use Rattle.faults.proofs.Blocks.{ColumnsKept}
use Rattle.faults.proofs.Rows.breaks_block.Given as goal

abbrev pub invariant-loop-b : goal.invariant-loop-b
invariant-loop-b l =
    let s = l.self in
    ColumnsKept (numbers_in s.cells.now) s.prior s.row s.width s.w s.v s.copies l.base l.b
