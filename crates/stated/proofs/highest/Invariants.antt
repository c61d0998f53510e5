-- `stated::highest` meets its contract: the totals above are marked, and total 0 isn't, so that the search ends.
use mathlib.Core.Path.{◌≡◌}
use Prim.Native.Nat.{ℕ, ◌<◌}
use lib.ListN.{length}
use Rattle.meaning.specs.Lists.{at}
use Rattle.meaning.specs.Cells.{no_way}
use Rattle.stated.proofs.highest.Given as goal

abbrev pub invariant-loop-t : goal.invariant-loop-t
invariant-loop-t l = (l.t < length l.row) × ((k : ℕ) → l.t < k → k < length l.row → at l.row k ≡ no_way)

abbrev pub decreases-loop-t : goal.decreases-loop-t
decreases-loop-t l = l.t
