-- `stated::count_remaining` meets its contract: m of the first i labels remain.
use Prim.Native.Nat.{◌+◌}
use native.Mathlib.Omega.{arith}
use Rattle.stated.proofs.Fitting.{count_fits}
use Rattle.stated.proofs.count_remaining.Goals as goal

pub overflow_add-m : goal.overflow_add-m
overflow_add-m c =
    let m = c.loop-i.m + c.if_light-m.result in
    omega (arith, count_fits m (omega (arith, c.if_light-m.ensures.1, c.loop-i.invariant.0, c.requires)))
