-- `blocks::fill_fewest` meets its contract: the row so far is grown size by size, from one in which amount 0 shows 0 and all others the mark.
use lib.ListN.{length}
use Rattle.meaning.specs.Cells.{no_way}
use Rattle.blocks.specs.Sizes.{fewer_of}
use Rattle.blocks.proofs.Growing.{Growing}
use Rattle.blocks.proofs.fill_fewest.Given as goal

abbrev pub invariant-loop-i : goal.invariant-loop-i
invariant-loop-i l = Growing fewer_of 0 no_way l.weights (length l.weights) (length l.initial.row) l.i l.row
