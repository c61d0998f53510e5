-- `Rows::breaks_within` meets its contract, cell by cell up the column.
use Rattle.std.proofs.Common.{◌-◌, ◌≤◌}
use Rattle.meaning.specs.Bytes.{numbers_in}
use Rattle.faults.proofs.Within.{ColumnPassed}
use Rattle.faults.proofs.Rows.breaks_within.Given as goal

abbrev pub invariant-loop-c : goal.invariant-loop-c
invariant-loop-c l =
    let s = l.self in
    (l.carried ≤ 8_589_934_590) × ColumnPassed (numbers_in s.cells.now) s.prior s.row l.end s.w s.v l.b l.c l.carried

abbrev pub decreases-loop-c : goal.decreases-loop-c
decreases-loop-c l = l.end - l.c
