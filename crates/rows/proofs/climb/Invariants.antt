-- `rows::climb` meets its contract: the row is swept stretch by stretch (`sweeping_on`), and stays capped.
use Prim.Native.Nat.{max, min}
use lib.ListN.{length}
use Rattle.meaning.specs.Lists.{at}
use Rattle.rows.specs.Rows.{raised_by, Capped}
use Rattle.rows.proofs.Stores.{Sweeping}
use Rattle.rows.proofs.climb.Given as goal

-- the last step may lead past the row, and so may the first
abbrev pub invariant-loop-c : goal.invariant-loop-c
invariant-loop-c l =
    let n = length l.initial.row in
    Sweeping (raised_by l.v) l.initial.row l.w l.w n (max l.w (min l.c n)) l.row × Capped (at l.row) n
