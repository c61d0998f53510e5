-- `behind::trace_off` meets its contract: each turn goes on by the label that its total shows, to a total that shows an earlier one.
use mathlib.Core.Path.{◌≡◌}
use Prim.Native.Nat.{◌-◌, ◌<◌}
use lib.ListN.{length}
use Rattle.meaning.specs.Lists.{at}
use Rattle.meaning.specs.Cells.{no_way}
use Rattle.behind.specs.Firsts.{TraceOff}
use Rattle.behind.proofs.trace_off.Given as goal

abbrev pub invariant-loop-t : goal.invariant-loop-t
invariant-loop-t l = (l.t < length l.row)
    × (¬ (at l.row l.t ≡ no_way))
    × (length l.picks ≡ length l.initial.picks)
    × TraceOff (at l.row) l.weights (length l.row - 1) l.t l.picks

-- the labels that are shown come down, so that there are no more turns than labels
abbrev pub decreases-loop-t : goal.decreases-loop-t
decreases-loop-t l = at l.row l.t
