-- `find_border` finds where the units run out.
use mathlib.Core.Path.{◌≡◌}
use Prim.Native.Nat.{◌+◌, ◌-◌, ◌*◌, ◌≤◌, ◌<◌}
use mir.Val.{bool_byte}
use Rattle.meaning.specs.Lists.{sum}
use Rattle.shares.specs.Borders.{count_of, NoLower}
use Rattle.shares.proofs.Claims.find_border.Given as goal

abbrev pub invariant-loop-found : goal.invariant-loop-found
invariant-loop-found l = (l.low < l.high)
    × (l.high ≤ sum l.self.weights)
    × (l.found ≡ count_of l.self l.high)
    × (l.found ≤ l.units)
    × NoLower l.self (l.low + 1)

abbrev pub decreases-loop-found : goal.decreases-loop-found
decreases-loop-found l = 2 * (l.high - l.low) + bool_byte l.close
