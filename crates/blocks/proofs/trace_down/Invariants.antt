-- `blocks::trace_down` meets its contract: the trace has come down to size i; each turn lays one block of it, or passes it.
use mathlib.Core.Path.{◌≡◌}
use Prim.Native.Nat.{◌+◌, ◌-◌, ◌≤◌, ◌<◌}
use lib.ListN.{length}
use Rattle.meaning.specs.Lists.{at}
use Rattle.blocks.proofs.Laying.{DownTo}
use Rattle.blocks.proofs.trace_down.Given as goal

abbrev pub invariant-loop-i : goal.invariant-loop-i
invariant-loop-i l = (l.i ≤ length l.weights)
    × (l.a < length l.row)
    × (length l.picks ≡ length l.initial.picks)
    × DownTo (at l.row) l.weights (length l.row - 1) l.i l.a l.picks

abbrev pub decreases-loop-i : goal.decreases-loop-i
decreases-loop-i l = l.i + l.a
