-- `Cutting::trace_back` meets its contract: the trace has come back to the row of the first i labels, and the picks from i on are what it found.
use mathlib.Core.Path.{◌≡◌}
use Prim.Native.Nat.{◌+◌, ◌*◌, ◌≤◌, ◌<◌}
use lib.ListN.{length, drop}
use Rattle.meaning.specs.Cuts.{cut_by}
use Rattle.stated.specs.LeastWeights.{row_of, cell_of}
use Rattle.stated.specs.ReadOff.{TraceBack}
use Rattle.stated.proofs.Cutting.trace_back.Given as goal

abbrev pub invariant-loop-i : goal.invariant-loop-i
invariant-loop-i l =
    let s = l.self in
    (l.row ≡ row_of s.budget s.weights.now l.i * s.width)
    × (l.row + s.width ≤ length l.cells)
    × (l.t < s.width)
    × TraceBack (cell_of s.budget s.weights.now s.width l.cells) (cut_by s.divisor s.values.now)
    (length s.weights.now) l.top l.i l.t (drop l.i l.picks)
