-- `sums::add_in_vectors` meets its contract: where the words are many, each takes the bits of two old words; where they are few, none does.
use lib.ListN.{length}
use Rattle.sums.proofs.Words.{AddingBits}
use Rattle.sums.proofs.add_in_vectors.Given as goal

abbrev pub invariant-loop-m : goal.invariant-loop-m
invariant-loop-m l = AddingBits l.initial.words l.q l.r (length l.initial.words) l.words l.m
