-- `sums::add_words` meets its contract: from the highest word down, so that what a word takes is still the old one q words below it.
use Prim.Native.Nat.{◌*◌, max}
use lib.ListN.{length}
use Rattle.sums.specs.Words.{Added}
use Rattle.sums.proofs.add_words.Given as goal

abbrev pub invariant-loop-m : goal.invariant-loop-m
invariant-loop-m l = let s = l.initial.words in Added s l.words (64 * l.q) (max l.q l.m) (length s)
