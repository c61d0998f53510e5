-- `verdicts::over_picked` meets its contract: the labels before have no more picks than they may.
use mathlib.Core.Path.{◌≡◌, sym, ap, ◌∙◌}
use native.Mathlib.Omega.{arith}
use borrow.Author.Tests.{lt-ltb, le-ltb}
use mathlib.Core.Bool.{true, false}
use Rattle.meaning.specs.Job.{job_of, labels}
use Rattle.meaning.specs.Certificates.{first, over_picked}
use Rattle.meaning.proofs.Searches.{first_start, first_fails, first_passes}
use Rattle.verdicts.specs.Searching.{place_of}
use Rattle.verdicts.proofs.over_picked.Invariants.{over}
use Rattle.verdicts.proofs.over_picked.Goals as goal

pub loop-i-init : goal.loop-i-init
loop-i-init c = first_start _

pub returns-then-most_picks-at : goal.returns-then-most_picks-at
unfolding over_picked place_of job_of labels
returns-then-most_picks-at c =
    let over_i = over c.args.job.now c.args.picks.now in
    let is_over : over_i c.loop-i.i ≡ true = lt-ltb _ _ (omega (arith, c.if-most_picks-at.true, c.most_picks.ensures, c.at.ensures)) in
    sym (ap (first over_i) c.requires.1 ∙ first_passes over_i c.loop-i.i c.loop-i.invariant is_over _ (omega (arith, c.len-i-end.ensures)))

pub loop-i-preserved : goal.loop-i-preserved
loop-i-preserved c =
    let not_over : over c.args.job.now c.args.picks.now c.loop-i.i ≡ false =
    le-ltb _ _ (omega (arith, c.if-most_picks-at.false, c.most_picks.ensures, c.at.ensures)) in
    first_fails _ c.loop-i.i c.loop-i.invariant not_over

pub returns : goal.returns
unfolding over_picked place_of job_of labels
returns c =
    sym (ap (first (over c.args.job.now c.args.picks.now)) (omega (arith, c.requires.1, c.len-i-end.ensures)) ∙ c.loop-i.invariant)
