-- `light::raise_label` meets its contract: one block more (`blocks_more`), then the last one and the words below it (`blocks_all`).
use lib.ListN.{length}
use Rattle.light.proofs.Blocks.{Blocks}
use Rattle.light.proofs.raise_label.Given as goal

abbrev pub invariant-loop-end : goal.invariant-loop-end
invariant-loop-end l = Blocks l.initial.row l.w l.v l.s (length l.initial.words) l.row l.words l.m l.end l.above

abbrev pub decreases-loop-end : goal.decreases-loop-end
decreases-loop-end l = l.end
