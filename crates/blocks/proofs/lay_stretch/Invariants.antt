-- `blocks::lay_stretch` meets its contract: the amounts so far are swept, each by the new cell one size before it.
use Rattle.rows.proofs.Stores.{Sweeping}
use Rattle.blocks.specs.Sizes.{fewer_of}
use Rattle.blocks.proofs.lay_stretch.Given as goal

abbrev pub invariant-loop-a : goal.invariant-loop-a
invariant-loop-a l = Sweeping fewer_of l.initial.row l.w l.from l.to l.a l.row
