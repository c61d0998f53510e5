-- `stated::value_of` meets its contract: the value is that of the first i labels.
use mathlib.Core.Path.{◌≡◌}
use Prim.Native.Nat.{◌*◌, ◌≤◌}
use lib.ListN.{take}
use Rattle.meaning.specs.Lists.{total}
use Rattle.meaning.specs.Bounds.{most_value}
use Rattle.stated.proofs.value_of.Given as goal

abbrev pub invariant-loop-i : goal.invariant-loop-i
invariant-loop-i l = (l.value ≤ most_value * l.i) × (l.value ≡ total l.values (take l.i l.picks))
