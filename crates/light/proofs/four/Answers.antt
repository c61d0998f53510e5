-- `light::four` meets its contract: each byte has its place (`four_spaced`).
use Prim.Native.Nat.{◌+◌}
use native.Mathlib.Omega.{arith}
use Rattle.meaning.specs.Lists.{at}
use Rattle.light.specs.Bits.{Few}
use Rattle.light.proofs.Turns.{four_spaced}
use Rattle.light.proofs.four.Goals as goal

pub returns : goal.returns
unfolding Few
returns c =
    let p = c.args.p in
    let few = c.requires.0 in (
      four_spaced (at c.args.b.now) p _ _ _ _ c.from.ensures c.from-2.ensures c.from-3.ensures c.from-4.ensures,
      omega (arith, few p (omega arith), few (p + 1) (omega arith), few (p + 2) (omega arith), few (p + 3) (omega arith)),
    )
