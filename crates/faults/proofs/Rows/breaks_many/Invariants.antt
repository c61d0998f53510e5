-- `Rows::breaks_many` meets its contract, block by block.
use Rattle.meaning.specs.Bytes.{numbers_in}
use Rattle.faults.proofs.Blocks.{BlocksKept}
use Rattle.faults.proofs.Rows.breaks_many.Given as goal

abbrev pub invariant-loop-base : goal.invariant-loop-base
invariant-loop-base l =
    let s = l.self in
    BlocksKept (numbers_in s.cells.now) s.prior s.row s.width s.w s.v s.copies l.base
