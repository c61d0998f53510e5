-- `stated::count_remaining` meets its contract: m of the first i labels remain.
use mathlib.Core.Path.{◌≡◌}
use Prim.Native.Nat.{◌≤◌}
use Rattle.stated.specs.LeastWeights.{row_of}
use Rattle.stated.proofs.count_remaining.Given as goal

abbrev pub invariant-loop-i : goal.invariant-loop-i
invariant-loop-i l = (l.m ≤ l.i) × (l.m ≡ row_of l.budget l.weights l.i)
