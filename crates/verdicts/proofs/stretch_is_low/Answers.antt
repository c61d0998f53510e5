-- `verdicts::stretch_is_low` meets its contract: the labels before are at fault nowhere.
use mathlib.Core.Path.{sym, ◌∙◌}
use native.Mathlib.Omega.{arith}
use Rattle.meaning.specs.Job.{job_of, labels}
use Rattle.verdicts.specs.Asked.{certified}
use Rattle.verdicts.proofs.LowRows.{label_told, stretch_low, stretch_kept}
use Rattle.verdicts.proofs.stretch_is_low.Goals as goal

pub returns-then-stretch_breaks : goal.returns-then-stretch_breaks
unfolding job_of labels
returns-then-stretch_breaks c =
    let job = certified c.args.job.now in
    let told = label_told _ _ _ job c.loop-i.i _ _ c.at-w.ensures c.at-v.ensures _ c.stretch_breaks.ensures in
    stretch_low _ _ _ job c.loop-i.i (omega (arith, c.len-i-end.ensures)) (sym told ∙ c.if-stretch_breaks.true)

pub returns : goal.returns
unfolding job_of labels
returns c = stretch_kept _ _ _ (certified c.args.job.now) _ (omega (arith, c.len-i-end.ensures)) c.loop-i.invariant
