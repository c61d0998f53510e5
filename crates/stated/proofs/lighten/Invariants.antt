-- `stated::lighten` meets its contract: each cell so far is made of two of the row before, which lies before all stores and is as it was.
use Prim.Native.Nat.{ℕ, ◌+◌, ◌-◌}
use mathlib.Core.List.{List}
use Rattle.meaning.specs.Lists.{at}
use Rattle.rows.proofs.Stores.{Storing}
use Rattle.stated.specs.LeastWeights.{lighter}
use Rattle.stated.proofs.lighten.Given as goal

-- the lighter of none of the label and one
abbrev pub made : List ℕ → ℕ → ℕ → ℕ → ℕ → ℕ → ℕ
made cells from a w room t = lighter (w + room) w (at cells (from + t)) (at cells (from + (t - a)))

abbrev pub invariant-loop-t : goal.invariant-loop-t
invariant-loop-t l = Storing l.initial.cells l.to l.a l.width (made l.initial.cells l.from l.a l.w l.room) l.t l.cells
