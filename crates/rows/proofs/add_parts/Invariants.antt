-- `rows::add_parts` meets its contract: a row with up to m of the label holds up to m and a part of it, once the part is raised (`greatest_part`).
use Prim.Native.Nat.{ℕ, ◌-◌, ◌≤◌, min}
use lib.ListN.{length}
use Rattle.meaning.specs.Lists.{at}
use Rattle.rows.specs.Rows.{GreatestRow, Capped}
use Rattle.rows.proofs.add_parts.Given as goal

abbrev pub invariant-loop-m : goal.invariant-loop-m
invariant-loop-m l = (l.m ≤ l.most)
    × Capped (at l.row) (length l.initial.row)
    × ((f : ℕ → ℕ) → GreatestRow (λ x. x ≤ min 1 l.most) f l.w l.v (length l.initial.row) (at l.initial.row)
    → GreatestRow (λ x. x ≤ l.m) f l.w l.v (length l.initial.row) (at l.row))

abbrev pub decreases-loop-m : goal.decreases-loop-m
decreases-loop-m l = l.most - l.m
