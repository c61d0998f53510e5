-- `Rows::breaks_two` meets its contract: the budgets where one count fits, and then, budget by budget, those where both do.
use Rattle.meaning.specs.Bytes.{numbers_in}
use Rattle.faults.proofs.Passes.{CountedLow}
use Rattle.faults.proofs.Pairs.{BothFound}
use Rattle.faults.proofs.Rows.breaks_two.Given as goal

abbrev pub invariant-loop-c : goal.invariant-loop-c
invariant-loop-c l =
    let s = l.self in
    CountedLow (λ b d. BothFound b (numbers_in s.cells.now) s.prior s.row d l.far s.w l.gain s.v) l.low l.c
