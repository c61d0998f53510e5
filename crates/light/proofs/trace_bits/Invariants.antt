-- `light::trace_bits` meets its contract: the trace has come back to label i, and the picks from i on are the bits that it read (`bits_more`).
use Prim.Native.Nat.{◌≤◌}
use lib.ListN.{length, drop}
use Rattle.light.specs.Labels.{TraceBits}
use Rattle.light.proofs.trace_bits.Given as goal

abbrev pub invariant-loop-i : goal.invariant-loop-i
invariant-loop-i l = (l.c ≤ l.budget) × TraceBits l.weights l.words l.per (length l.weights) l.budget l.i l.c (drop l.i l.picks)
