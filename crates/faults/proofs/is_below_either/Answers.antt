-- `faults::is_below_either` meets its contract: a claim that is no less than the greater value wraps by neither.
use Rattle.std.proofs.Common.{arith}
use Rattle.faults.proofs.Pairs.{below_either}
use Rattle.faults.proofs.is_below_either.Goals as goal

pub returns : goal.returns
returns c = below_either _ _ _ _ _ _ _ c.requires (omega arith) (omega arith) (omega arith) (omega arith) (omega arith)
