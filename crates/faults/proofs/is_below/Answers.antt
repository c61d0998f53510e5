-- `faults::is_below` meets its contract: the claim less the value wraps only where the claim is below the value.
use Rattle.std.proofs.Common.{arith}
use Rattle.faults.proofs.Passes.{below_sum}
use Rattle.faults.proofs.is_below.Goals as goal

pub returns : goal.returns
returns c = below_sum _ _ _ _ (omega arith) (omega arith) (omega arith)
