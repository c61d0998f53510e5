-- `verdicts::picked` meets its contract: the sum over the labels so far grows by the next, and stays within 64 bits.
use Prim.Native.Nat.{◌<◌, ◌*◌}
use native.Mathlib.Omega.{arith}
use lib.ListN.{length}
use Rattle.verdicts.proofs.PickedSums.{sum_none, NextSum, sum_next}
use Rattle.verdicts.proofs.picked.Goals as goal

-- both numbers are read
grown : (c : goal.After-at-count) → let a = c.args in let q = c.loop-i in NextSum a.each.now a.picks.now q.i q.sum (c.at-x.result * c.at-count.result)
grown c =
    let q = c.loop-i in
    let there : q.i < length c.args.picks.now = omega (arith, c.len-i-end.ensures) in
    sum_next _ _ c.requires q.i q.sum _ _ there q.invariant c.at-x.ensures (omega arith) c.at-count.ensures

pub loop-i-init : goal.loop-i-init
loop-i-init c = sum_none _ _

pub overflow_add-sum : goal.overflow_add-sum
overflow_add-sum c = omega (arith, (grown c).sum_fits)

pub loop-i-preserved : goal.loop-i-preserved
loop-i-preserved c = (grown c).next
