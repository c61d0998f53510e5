-- `stated::greatest_value` meets its contract: the greater of p and of the greatest value from label i on stays the same.
use native.Mathlib.Omega.{arith}
use Rattle.stated.proofs.Measuring.{greatest_on}
use Rattle.stated.proofs.greatest_value.Goals as goal

pub loop-i-preserved : goal.loop-i-preserved
loop-i-preserved c =
    let l = c.loop-i in
    greatest_on c.args.budget c.args.weights.now c.args.values.now c.requires l.i (omega arith) c.at-w.result c.at-v.result c.if_light.result
    c.at-w.ensures c.at-v.ensures c.if_light.ensures.0 l.p c.max-p.result _ l.invariant c.max-p.ensures
