-- `rows::least_count` meets its contract: no fewer are worth the goal; some count is, so that budget and goal are left for one more (`goes_on`).
use native.Mathlib.Nat.{mul-add}
use Prim.Native.Nat.{◌+◌}
use native.Mathlib.Omega.{arith}
use Rattle.meaning.specs.Lists.{at}
use Rattle.meaning.specs.Bounds.{most_budget}
use Rattle.rows.proofs.LeastCounts.{GoesOn, goes_on}
use Rattle.rows.proofs.least_count.Goals as goal

-- the count under trial is not the one
on : (c : goal.In-loop-left) → let a = c.args in let l = c.loop-left in GoesOn (λ d. at c.args.cells.now (c.args.from + d)) a.w a.v a.c a.goal l.x l.left l.rest
on c =
    let a = c.args in
    let l = c.loop-left in
    goes_on (λ d. at c.args.cells.now (c.args.from + d)) a.w a.v a.c a.goal l.x l.left l.rest
    l.invariant.0 l.invariant.1 l.invariant.2 c.loop-left-test.true c.requires.le_w.0 c.requires.some_count

pub overflow_sub-left : goal.overflow_sub-left
overflow_sub-left c = (on c).light

pub overflow_sub-rest : goal.overflow_sub-rest
overflow_sub-rest c = (on c).cheap

pub overflow_add-x : goal.overflow_add-x
unfolding most_budget
overflow_add-x c = omega (arith, (on c).few, c.requires.le_w)

pub loop-left-smaller : goal.loop-left-smaller
loop-left-smaller c = omega (arith, (on c).light, c.requires.le_w)

pub loop-left-preserved : goal.loop-left-preserved
loop-left-preserved c =
    let a = c.args in
    let x = c.loop-left.x in
    (omega (arith, (on c).light, mul-add a.w x 1), omega (arith, (on c).cheap, mul-add a.v x 1), (on c).fewer)
