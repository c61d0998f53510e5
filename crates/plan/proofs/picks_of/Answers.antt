-- `plan::picks_of` meets its contract: each of its two arms is told the variants that it takes.
use Rattle.std.proofs.Common.{inl, inr, refl}
use Rattle.plan.specs.Picks.{picks_written}
use Rattle.plan.proofs.picks_of.Goals as goal

pub returns-in-Knapsack : goal.returns-in-Knapsack
unfolding picks_written
returns-in-Knapsack c =
    elim c.in-Knapsack.is [
      | inl (value, weight, is) ↦ rw is refl
      | inr (inl (blocks, is)) ↦ rw is refl
      | inr (inr (inl (spare, is))) ↦ rw is refl
      | inr (inr (inr (weight, is))) ↦ rw is refl
    ]

pub returns-in-Sums : goal.returns-in-Sums
unfolding picks_written
returns-in-Sums c =
    elim c.in-Sums.is [
      | inl (reached, totals, is) ↦ rw is refl
      | inr (ways, is) ↦ rw is refl
    ]
