-- `sums::count_totals` meets its contract: the ones of the words so far are their bits that are set, and stay within 32 bits.
use mathlib.Core.Path.{◌≡◌}
use Prim.Native.Nat.{◌*◌}
use Rattle.meaning.specs.Lists.{up_to, tally}
use Rattle.sums.specs.Words.{is_set}
use Rattle.sums.proofs.count_totals.Given as goal

abbrev pub invariant-loop-word : goal.invariant-loop-word
invariant-loop-word l = l.count ≡ tally (is_set l.words) (up_to (64 * l.word-index))
