-- `Cutting::fill` meets its contract: in the first row total 0 alone is reached, and then a label more each turn (`filled_next`).
use mathlib.Core.Path.{◌≡◌}
use Prim.Native.Nat.{◌*◌}
use Rattle.meaning.specs.Cuts.{cut_by}
use Rattle.stated.specs.LeastWeights.{row_of, Filled}
use Rattle.stated.proofs.Cutting.fill.Given as goal

abbrev pub invariant-loop-i : goal.invariant-loop-i
invariant-loop-i l = (l.from ≡ row_of l.self.budget l.self.weights.now l.i * l.self.width)
    × Filled l.self.budget l.self.weights.now (cut_by l.self.divisor l.self.values.now) l.self.width l.i l.cells
