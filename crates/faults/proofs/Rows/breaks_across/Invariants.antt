-- `Rows::breaks_across` meets its contract, cell by cell up the column.
use Rattle.std.proofs.Common.{◌-◌}
use Rattle.meaning.specs.Bytes.{numbers_in}
use Rattle.faults.proofs.Across.{Crossed}
use Rattle.faults.proofs.Rows.breaks_across.Given as goal

abbrev pub invariant-loop-x : goal.invariant-loop-x
invariant-loop-x l =
    let s = l.self in
    Crossed (numbers_in s.cells.now) s.prior s.row s.width s.w s.v s.copies l.a l.x l.least

abbrev pub decreases-loop-x : goal.decreases-loop-x
decreases-loop-x l = l.b - l.x
