-- `stated::lesser_weight` meets its contract: what is no more than the room is no mark, and the weight without the label is the lesser.
use Prim.Native.Nat.{◌+◌}
use native.Mathlib.Omega.{arith}
use Rattle.stated.proofs.Lightening.{lighter_lesser}
use Rattle.stated.proofs.lesser_weight.Goals as goal

pub returns : goal.returns
returns c =
    let a = c.args in
    omega (arith, lighter_lesser (a.w + a.room) a.w a.without a.less (omega arith))
