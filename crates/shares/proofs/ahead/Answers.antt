-- `ahead` is the test of its definition.
use mathlib.Core.Path.{refl}
use Rattle.shares.specs.Borders.{ahead_of}
use Rattle.shares.proofs.ahead.Goals as goal

pub returns : goal.returns
unfolding ahead_of
returns c = refl
