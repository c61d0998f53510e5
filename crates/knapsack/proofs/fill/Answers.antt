-- `knapsack::fill` meets its contract: the rows so far are filled, and the last of them is capped, which the next asks (`filled_capped`).
use native.Mathlib.Omega.{arith}
use Rattle.knapsack.proofs.FullRows.{filled_more, filled_capped}
use Rattle.knapsack.proofs.fill.Goals as goal

pub next_row-requires-clause-capped : goal.next_row-requires-clause-capped
next_row-requires-clause-capped c =
    let l = c.loop-i in
    filled_capped _ _ _ _ c.requires.bounded l.i l.cells (omega arith) l.invariant l.i (omega arith)

pub loop-i-preserved : goal.loop-i-preserved
loop-i-preserved c =
    let l = c.loop-i in
    filled_more _ _ _ _ l.i _ _ l.invariant (rw (c.at-w.ensures, c.at-v.ensures, c.allowed-limit.ensures) at c.next_row.ensures)
