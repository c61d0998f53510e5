-- `knapsack::fill_row` meets its contract: the row so far is made label by label, and is capped, which the next asks (`climbed_capped`).
use Prim.Native.Nat.{ℕ, ◌<◌}
use mathlib.Core.Path.{◌≡◌}
use lib.ListN.{length}
use Rattle.meaning.specs.Lists.{at}
use Rattle.rows.specs.Rows.{GreatestRow, AnyCount}
use Rattle.rows.proofs.Rounds.{Rounds}
use Rattle.knapsack.proofs.fill_row.Given as goal

abbrev pub invariant-loop-i : goal.invariant-loop-i
invariant-loop-i l =
    Rounds (λ wide s. (c : ℕ) → c < wide → at s c ≡ 0) (λ wide m s t. GreatestRow AnyCount (at s) (at l.weights m) (at l.values m) wide (at t))
    (length l.weights) (length l.initial.row) l.i l.row
