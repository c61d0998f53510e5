-- `light::exchange` meets its contract, which says what it does.
use mathlib.Core.Path.{refl}
use Rattle.light.specs.Bits.{unequal, exchanged}
use Rattle.light.proofs.exchange.Goals as goal

pub returns : goal.returns
unfolding exchanged unequal
returns c = refl
