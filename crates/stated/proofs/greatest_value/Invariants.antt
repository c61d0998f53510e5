-- `stated::greatest_value` meets its contract: the greater of p and of the greatest value from label i on stays the same.
use mathlib.Core.Path.{◌≡◌}
use Prim.Native.Nat.{max}
use lib.ListN.{drop}
use Rattle.meaning.specs.Cuts.{that_fit, greatest_of}
use Rattle.stated.proofs.greatest_value.Given as goal

abbrev pub invariant-loop-i : goal.invariant-loop-i
invariant-loop-i l = (max l.p (greatest_of (that_fit l.budget (drop l.i l.weights) (drop l.i l.values)))
    ≡ greatest_of (that_fit l.budget l.weights l.values))
