-- `blocks::fill_ways` meets its contract: the row so far is grown size by size, from one in which amount 0 alone has a way.
use lib.ListN.{length}
use Rattle.blocks.specs.Sizes.{ways_of}
use Rattle.blocks.proofs.Growing.{Growing}
use Rattle.blocks.proofs.fill_ways.Given as goal

abbrev pub invariant-loop-i : goal.invariant-loop-i
invariant-loop-i l = Growing ways_of 1 0 l.weights (length l.weights) (length l.initial.words) l.i l.words
