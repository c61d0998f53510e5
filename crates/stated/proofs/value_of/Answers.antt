-- `stated::value_of` meets its contract: the value is that of the first i labels.
use Prim.Native.Nat.{◌*◌, ◌≤◌}
use native.Mathlib.Omega.{arith}
use Rattle.meaning.specs.Lists.{at}
use Rattle.meaning.specs.Bounds.{most_value}
use Rattle.meaning.proofs.EachLabel.{product_one}
use Rattle.stated.proofs.Fitting.{sum_fits}
use Rattle.stated.proofs.value_of.Goals as goal

pub overflow_add-value : goal.overflow_add-value
overflow_add-value c =
    let l = c.loop-i in
    let v = c.at.result in
    let x = at c.args.picks.now l.i in
    let cheap : v ≤ most_value = rw c.at.ensures (c.requires.valued.cheap l.i (omega arith)) in
    let few = product_one v x (c.requires.by_index l.i (omega arith)) in
    let fits = sum_fits l.value (v * x) l.i l.invariant.0 (omega (arith, few, cheap)) (omega (arith, c.requires.valued.few)) in
    omega (arith, fits.1)
