-- `Cutting::pack` meets its contract: `fill` leaves the table, `highest` finds the total in its last row, and `trace_back` the picks.
use mathlib.Core.Path.{ap, ap₂}
use Prim.Native.Nat.{ℕ, ◌+◌}
use lib.ListN.{length}
use Rattle.meaning.specs.Says as Says
use Rattle.meaning.specs.Lists.{at}
use Rattle.meaning.specs.Cuts.{cut_by}
use Rattle.stated.specs.LeastWeights.{Roomy}
use Rattle.stated.proofs.Tracing.{last_is, last_some, last_highest}
use Rattle.stated.proofs.Cutting.pack.Goals as goal

pub highest-top-requires : goal.highest-top-requires
highest-top-requires c =
    let s = c.args.self.now in
    let roomy : Roomy s.budget s.weights.now (cut_by s.divisor s.values.now) s.width (length c.fill.new.cells) =
    rw c.fill.auto.cells c.requires.roomy.0 in
    last_some c.fill.new.cells roomy c.fill.ensures

pub returns : goal.returns
returns c =
    let s = c.args.self.now in
    let roomy : Roomy s.budget s.weights.now (cut_by s.divisor s.values.now) s.width (length c.fill.new.cells) =
    rw c.fill.auto.cells c.requires.roomy.0 in
    record {
      top = c.highest-top.result;
      filled = c.fill.ensures;
      highest = last_highest c.fill.new.cells roomy c.highest-top.ensures;
      traced = c.trace_back.ensures;
      says = ap₂ (λ (value weight : ℕ). Says.Knapsack value weight) c.value_of-value.ensures
          (ap (λ (from : ℕ). at c.fill.new.cells (from + c.highest-top.result)) (last_is c.fill.new.cells roomy));
    }
