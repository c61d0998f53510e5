-- `Numbers::joined` meets its contract: both slices together hold fewer bytes than can be counted.
use native.Mathlib.Omega.{arith}
use Rattle.numbers.proofs.TwoSlices.{list_long}
use Rattle.numbers.proofs.Numbers.joined.Goals as goal

pub invariant_of-result : goal.invariant_of-result
invariant_of-result c = omega (arith, list_long c.args.numbers.now c.args.bytes.now, c.well_formed)
