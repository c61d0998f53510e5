-- `blocks::lay` meets its contract: the row is swept stretch by stretch (`sweeping_on`), wherever a stretch ends.
use Prim.Native.Nat.{max, min}
use lib.ListN.{length}
use Rattle.rows.proofs.Stores.{Sweeping}
use Rattle.blocks.specs.Sizes.{fewer_of}
use Rattle.blocks.proofs.lay.Given as goal

-- the last step may lead past the row, and so may the first
abbrev pub invariant-loop-a : goal.invariant-loop-a
invariant-loop-a l =
    let n = length l.initial.row in
    Sweeping fewer_of l.initial.row l.w l.w n (max l.w (min l.a n)) l.row
