-- `Rows::breaks_few` meets its contract, count by count.
use Rattle.std.proofs.Common.{◌*◌}
use Rattle.meaning.specs.Bytes.{numbers_in}
use Rattle.faults.proofs.Counts.{CountsPassed}
use Rattle.faults.proofs.Rows.breaks_few.Given as goal

abbrev pub invariant-loop-pair : goal.invariant-loop-pair
invariant-loop-pair l =
    let s = l.self in
    let count = 2 * l.pair in
    CountsPassed (numbers_in s.cells.now) s.prior s.row s.width s.w s.v count (count * s.w) (count * s.v)
