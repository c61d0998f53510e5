-- `light::eight` meets its contract: twice four bytes (`eight_spaced`).
use native.Mathlib.Omega.{arith}
use Rattle.meaning.specs.Lists.{at}
use Rattle.light.proofs.Turns.{eight_spaced}
use Rattle.light.proofs.eight.Goals as goal

pub returns : goal.returns
returns c =
    let low = c.four in
    let high = c.four-2 in (
      eight_spaced (at c.args.b.now) c.args.p low.result high.result low.ensures.0 high.ensures.0,
      omega (arith, low.ensures.1, high.ensures.1),
    )
