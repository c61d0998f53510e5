-- `claims_sum` gives S, the sum of the claims.
use mathlib.Core.Path.{◌≡◌}
use Prim.Native.Nat.{◌*◌, ◌≤◌}
use lib.ListN.{take}
use Rattle.meaning.specs.Lists.{sum}
use Rattle.shares.proofs.claims_sum.Given as goal

abbrev pub invariant-loop-i : goal.invariant-loop-i
invariant-loop-i l = (l.sum ≡ sum (take l.i l.weights)) × (l.sum ≤ l.i * 4_294_967_295)
