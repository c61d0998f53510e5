-- `rows::least_count` meets its contract: no fewer are worth the goal; some count is, so that budget and goal are left for one more (`goes_on`).
use mathlib.Core.Path.{◌≡◌}
use Prim.Native.Nat.{ℕ, ◌+◌, ◌*◌, ◌<◌}
use Rattle.meaning.specs.Lists.{at}
use Rattle.rows.specs.Rows.{Worth}
use Rattle.rows.proofs.least_count.Given as goal

abbrev pub invariant-loop-left : goal.invariant-loop-left
invariant-loop-left l = (l.left + l.w * l.x ≡ l.c)
    × (l.rest + l.v * l.x ≡ l.goal)
    × ((y : ℕ) → y < l.x → ¬ Worth (λ d. at l.cells (l.from + d)) l.w l.v l.c y l.goal)

abbrev pub decreases-loop-left : goal.decreases-loop-left
decreases-loop-left l = l.left
