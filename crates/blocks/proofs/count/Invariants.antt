-- `blocks::count` meets its contract: the amounts so far are swept, each by the new ways one size before it.
use lib.ListN.{length}
use Rattle.rows.proofs.Stores.{Sweeping}
use Rattle.blocks.specs.Sizes.{ways_of}
use Rattle.blocks.proofs.count.Given as goal

abbrev pub invariant-loop-a : goal.invariant-loop-a
invariant-loop-a l = Sweeping ways_of l.initial.words l.w l.w (length l.initial.words) l.a l.words
