-- `rows::add_any_number` meets its contract: fewer than m of the label, and any number of bundles of m, are any number of it (`greatest_bundles`).
use Prim.Native.Nat.{◌*◌, ◌≤◌}
use native.Mathlib.Nat.{one-mul, mul-le-mul_right}
use native.Mathlib.Omega.{arith}
use lib.ListN.{length}
use Rattle.meaning.specs.Lists.{at}
use Rattle.meaning.specs.Bounds.{most_value}
use Rattle.rows.proofs.Counts.{greatest_any, greatest_bundles}
use Rattle.rows.proofs.add_any_number.Goals as goal

pub overflow_mul-v : goal.overflow_mul-v
unfolding most_value
overflow_mul-v c =
    let b = c.bundle-m in
    omega (arith, mul-le-mul_right b.result c.requires.le_w.1.0, b.ensures.few)

pub returns : goal.returns
returns c =
    let heavy : 1 ≤ c.args.w * c.bundle-m.result = let m = c.bundle-m.result in
    omega (arith, mul-le-mul_right m c.requires.le_w.0, one-mul m, c.bundle-m.ensures.some_of) in
    let up = c.climb in
    let b = c.bundle-m in
    let a = c.args in
    let width = length a.row.now in
    let w = a.w * b.result in
    let v = a.v * b.result in
    greatest_bundles (at a.row.now) (at b.new.row) (at up.new.row) a.w a.v b.result width b.ensures.some_of b.ensures.fewer
    (greatest_any (at b.new.row) (at up.new.row) w v width heavy (rw b.auto.row at up.ensures))
