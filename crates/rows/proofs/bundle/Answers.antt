-- `rows::bundle` meets its contract: a row with fewer than m of the label holds fewer than twice as many, once m are raised (`greatest_part`).
use mathlib.Core.Path.{◌≡◌}
use Prim.Native.Nat.{◌+◌, ◌-◌, ◌*◌, ◌%◌, ◌<◌}
use native.Mathlib.Nat.{mod-eq_of_lt, mul-one, one-mul, mul_assoc, mul-le-mul_right}
use native.Mathlib.Omega.{arith}
use lib.ListN.{length}
use Rattle.meaning.specs.Lists.{at}
use Rattle.meaning.specs.Bounds.{most_budget, most_value}
use Rattle.rows.specs.Rows.{GreatestRow, Capped}
use Rattle.rows.proofs.Counts.{greatest_none, greatest_part, PartFits, part_fits, raised_capped}
use Rattle.rows.proofs.bundle.Goals.{In-loop-m}
use Rattle.rows.proofs.bundle.Goals as goal

-- m of the label are light and cheap
fits : (c : In-loop-m) → let a = c.args in PartFits a.w a.v c.loop-m.m 16
fits c = let a = c.args in part_fits a.w a.v c.loop-m.m c.loop-m.m 16 c.requires.le_w.0 c.requires.le_w.1.0 (omega arith) c.loop-m-test.true

-- so that the remainder is their weight
whole : (c : In-loop-m) → let w = c.args.w * c.loop-m.m in w % 16 ≡ w
whole c = mod-eq_of_lt (fits c).light

pub loop-m-init : goal.loop-m-init
unfolding GreatestRow
loop-m-init c =
    let a = c.args in
    record {
      some_of = omega arith;
      few = omega arith;
      fits = omega (arith, mul-one a.w);
      fewer = λ d h. greatest_none (at a.row.now) a.w a.v d;
      capped = c.requires.capped;
    }

pub overflow_mul-v : goal.overflow_mul-v
unfolding most_value
overflow_mul-v c = omega (arith, fits (goal.at.overflow_mul-v c).In-loop-m)

pub add_one-requires : goal.add_one-requires
unfolding Capped most_budget most_value
add_one-requires c =
    let b = (goal.at.add_one-requires c).In-loop-m in
    λ d h. omega (arith, c.loop-m.invariant.capped d (omega arith), fits b, whole b, c.requires.le_w)

pub loop-m-preserved : goal.loop-m-preserved
unfolding GreatestRow
loop-m-preserved c =
    let b = (goal.at.loop-m-preserved c).In-loop-m in
    let l = c.loop-m in
    let a = c.args in
    let width = length a.row.now in
    let after = at c.add_one.new.row in
    let small : l.m < 16 = omega (arith, mul-le-mul_right l.m c.requires.le_w.0, one-mul l.m, (fits b).light) in
    let raised = rw (whole b, l.auto.row) at c.add_one.ensures in
    record {
      some_of = omega (arith, l.invariant.some_of);
      few = omega arith;
      fits = omega (arith, (fits b).light, mul_assoc a.w l.m 2);
      fewer = λ d h.
          let count : l.m - 1 + l.m ≡ l.m * 2 - 1 = omega (arith, l.invariant.some_of) in
          rw (← count) (greatest_part (at a.row.now) (at l.row) after a.w a.v (l.m - 1) l.m width (omega arith) l.invariant.fewer raised d h);
      capped = raised_capped (at l.row) after (a.w * l.m) (a.v * l.m) width (fits b).cheap l.invariant.capped raised;
    }
