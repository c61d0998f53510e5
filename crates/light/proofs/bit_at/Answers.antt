-- `light::bit_at` meets its contract: bit c mod 64 of word c / 64.
use mathlib.Core.Path.{sym}
use Prim.Native.Nat.{◌+◌, ◌*◌, ◌/◌, ◌%◌}
use native.Mathlib.Omega.{arith}
use Rattle.rows.proofs.Bits.{bit_of, bit_in}
use Rattle.light.proofs.bit_at.Goals as goal

pub returns : goal.returns
unfolding bit_of
returns c =
    let a = c.args in
    sym (bit_in a.words.now (a.from + a.c / 64) (a.c % 64) (64 * a.from + a.c) (omega arith) (omega arith))
