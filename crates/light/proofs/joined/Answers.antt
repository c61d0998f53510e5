-- `light::joined` meets its contract: two shifts are one (`shl_twice`), and the parts don't meet (`joined_fits`).
use mathlib.Core.Path.{ap}
use Prim.Native.Nat.{ℕ, ◌+◌, ◌-◌, ◌/◌, ◌^◌}
use native.Mathlib.Omega.{arith}
use Rattle.light.proofs.Windows.{shl_twice, joined_fits}
use Rattle.light.proofs.joined.Goals as goal

pub overflow_add-result : goal.overflow_add-result
overflow_add-result c =
    let a = c.args in
    let moved = shl_twice a.above (a.s - 1) a.s (omega arith) in
    omega (arith, moved, joined_fits a.above a.bits a.s (omega arith) (omega arith) (omega arith))

pub returns : goal.returns
returns c = let a = c.args in ap (λ (x : ℕ). x + a.bits / 2 ^ (64 - a.s)) (shl_twice a.above (a.s - 1) a.s (omega arith))
