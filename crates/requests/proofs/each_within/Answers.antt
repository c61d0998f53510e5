-- `requests::each_within` meets its contract: what was tested so far is the promise of the part that was passed.
use native.Mathlib.Omega.{arith}
use Rattle.requests.proofs.Judging.{none_tested, one_tested}
use Rattle.requests.proofs.each_within.Goals as goal

pub loop-i-init : goal.loop-i-init
loop-i-init c = none_tested _ _

pub loop-i-preserved : goal.loop-i-preserved
loop-i-preserved c =
    let l = c.loop-i in
    let x = c.at-x.ensures in
    rw x (one_tested _ _ c.args.numbers.now l.i l.within (omega arith) (omega (arith, x)) l.invariant)
