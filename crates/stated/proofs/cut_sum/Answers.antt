-- `stated::cut_sum` meets its contract: the sum so far and that of the cut values from label i on stay the same together.
use mathlib.Core.Path.{sym, ap, ◌∙◌}
use Prim.Native.Nat.{ℕ, ◌/◌, ◌≤◌}
use native.Mathlib.Nat.{div-le_self}
use native.Mathlib.Omega.{arith}
use Rattle.meaning.specs.Bounds.{most_value}
use Rattle.meaning.specs.Cuts.{cut_by}
use Rattle.stated.proofs.Fitting.{sum_fits}
use Rattle.stated.proofs.Measuring.{cut_at, cut_long, sum_on}
use Rattle.stated.proofs.cut_sum.Goals as goal

pub overflow_add-sum : goal.overflow_add-sum
overflow_add-sum c =
    let l = c.loop-i in
    let cheap : c.at-v.result ≤ most_value = rw c.at-v.ensures (c.requires.1.cheap l.i (omega arith)) in
    let low : c.if_light-sum.result ≤ most_value = omega (arith, c.if_light-sum.ensures.1, div-le_self c.at-v.result c.args.divisor) in
    let fits = sum_fits l.sum c.if_light-sum.result l.i l.invariant.0 low (omega (arith, c.requires.1.few)) in
    omega (arith, fits.1)

pub loop-i-preserved : goal.loop-i-preserved
loop-i-preserved c =
    let l = c.loop-i in
    let a = c.args in
    let cheap : c.at-v.result ≤ most_value = rw c.at-v.ensures (c.requires.1.cheap l.i (omega arith)) in
    let low : c.if_light-sum.result ≤ most_value = omega (arith, c.if_light-sum.ensures.1, div-le_self c.at-v.result a.divisor) in
    let fits = sum_fits l.sum c.if_light-sum.result l.i l.invariant.0 low (omega (arith, c.requires.1.few)) in
    let cut_is = ap (λ (v : ℕ). v / a.divisor) c.at-v.ensures ∙ sym (cut_at a.divisor a.values.now l.i) in (
      fits.0,
      sum_on a.budget a.weights.now (cut_by a.divisor a.values.now) (cut_long a.divisor a.values.now ∙ c.requires.1.one_each) l.i (omega arith)
          c.at-w.result (c.at-v.result / a.divisor) c.if_light-sum.result c.at-w.ensures cut_is c.if_light-sum.ensures.0 l.sum _ l.invariant.1,
    )
