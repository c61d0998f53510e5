-- `sums::add_bits` meets its contract: the words below those that took the label in vectors take it too, and the lowest takes the bits of one.
use Rattle.sums.proofs.Words.{AddingBits}
use Rattle.sums.proofs.add_bits.Given as goal

abbrev pub invariant-loop-m : goal.invariant-loop-m
invariant-loop-m l = AddingBits l.initial.words l.q l.r l.end l.words l.m
