-- A job of a knapsack keeps what its rows count on.
-- Assumes nothing.
use Prim.Native.Nat.{◌+◌}
use native.Mathlib.Omega.{arith}
use Rattle.meaning.specs.Job.{Job, Knapsack, labels}
use Rattle.meaning.proofs.Valid.{Valid, weight_rule, value_rule}
use Rattle.rows.specs.Bounded.{Bounded}

pub bounded : (k : Knapsack) (j : Job) → Valid k j → Bounded (j.budget + 1) j.weights j.values
unfolding labels
bounded k j ok = record {
  wide = omega arith;
  narrow = omega (arith, ok.small);
  valued = ok.valued;
  heavy = weight_rule k j ok;
  cheap = value_rule k j ok;
}
