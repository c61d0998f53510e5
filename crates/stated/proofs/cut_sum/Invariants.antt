-- `stated::cut_sum` meets its contract: the sum so far and that of the cut values from label i on stay the same together.
use mathlib.Core.Path.{◌≡◌}
use Prim.Native.Nat.{◌+◌, ◌*◌, ◌≤◌}
use lib.ListN.{drop}
use Rattle.meaning.specs.Lists.{sum}
use Rattle.meaning.specs.Bounds.{most_value}
use Rattle.meaning.specs.Cuts.{that_fit, cut_by}
use Rattle.stated.proofs.cut_sum.Given as goal

abbrev pub invariant-loop-i : goal.invariant-loop-i
invariant-loop-i l = (l.sum ≤ most_value * l.i)
    × (l.sum + sum (that_fit l.budget (drop l.i l.weights) (drop l.i (cut_by l.divisor l.values)))
    ≡ sum (that_fit l.budget l.weights (cut_by l.divisor l.values)))
