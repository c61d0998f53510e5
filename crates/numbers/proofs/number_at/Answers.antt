-- `numbers::number_at` meets its contract: the four bytes are within the slice, and each is below 256, so no sum wraps.
use native.Mathlib.Omega.{arith}
use Rattle.meaning.specs.Bytes.{number_at}
use Rattle.numbers.proofs.number_at.Goals as goal

pub returns : goal.returns
unfolding number_at
returns c = omega arith
