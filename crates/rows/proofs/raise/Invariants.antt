-- `rows::raise` meets its contract: each cell so far is made of two of the row before, which lies before all stores and is as it was.
use Prim.Native.Nat.{ℕ, ◌+◌, ◌-◌, max}
use mathlib.Core.List.{List}
use Rattle.meaning.specs.Lists.{at}
use Rattle.rows.proofs.Stores.{Storing}
use Rattle.rows.proofs.raise.Given as goal

-- the better of none of the label and one
abbrev pub better : List ℕ → ℕ → ℕ → ℕ → ℕ → ℕ
better cells from w v k = max (at cells (from + k)) (at cells (from + (k - w)) + v)

abbrev pub invariant-loop-c : goal.invariant-loop-c
invariant-loop-c l = Storing l.initial.cells l.to l.w l.width (better l.initial.cells l.from l.w l.v) l.c l.cells
