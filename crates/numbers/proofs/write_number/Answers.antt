-- `numbers::write_number` meets its contract: four bytes are written over four.
use mathlib.Core.Path.{◌≡◌, refl}
use Prim.Native.Nat.{◌+◌, ◌-◌}
use native.Mathlib.Omega.{arith}
use Rattle.meaning.specs.Bytes.{bytes_of}
use Rattle.numbers.specs.Placed.{HoldsAt}
use Rattle.numbers.proofs.write_number.Goals as goal

pub returns : goal.returns
unfolding bytes_of HoldsAt
returns c =
    let four : c.args.p + 4 - c.args.p ≡ 4 = omega arith in
    rw (four, c.copy_from_slice.ensures.after, c.to_le_bytes.ensures) refl
