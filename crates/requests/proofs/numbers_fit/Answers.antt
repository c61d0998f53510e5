-- `requests::numbers_fit` meets its contract: weights, values and copies, list by list.
use mathlib.Core.Path.{◌≡◌, sym, ◌∙◌}
use mathlib.Core.Bool.{true}
use Rattle.meaning.specs.Job.{job_of}
use Rattle.meaning.specs.Bounds.{most_value}
use Rattle.meaning.specs.Refusals.{each_within}
use Rattle.rules.specs.Ruling.{rule_from}
use Rattle.numbers.specs.Lists.{job_as}
use Rattle.requests.proofs.Judging.{within_as, weights_wrong, values_wrong, rest_copies}
use Rattle.requests.proofs.numbers_fit.Goals as goal

pub returns-then-not-keeps : goal.returns-then-not-keeps
unfolding job_of
returns-then-not-keeps c kind needs_sum =
    let a = c.args in
    let job = job_as kind a.job.now in
    weights_wrong c.args.rules needs_sum job (sym c.keeps.ensures ∙ c.if-not-keeps.true)

pub returns-then-not-each_within : goal.returns-then-not-each_within
unfolding job_of
returns-then-not-each_within c kind needs_sum =
    let a = c.args in
    let job = job_as kind a.job.now in
    let kept : rule_from a.rules.weights a.job.now.weights ≡ true = sym c.keeps.ensures ∙ c.if-not-keeps.false in
    let valued : c.each_within.result ≡ each_within a.rules.floor most_value a.job.now.values = within_as c.value_bounds-worth.ensures.0 c.value_bounds-worth.ensures.1 c.each_within.ensures in
    values_wrong c.args.rules needs_sum job kept (sym valued ∙ c.if-not-each_within.true)

pub returns : goal.returns
unfolding job_of
returns c kind needs_sum =
    let a = c.args in
    let job = job_as kind a.job.now in
    let kept : rule_from a.rules.weights a.job.now.weights ≡ true = sym c.keeps.ensures ∙ c.if-not-keeps.false in
    let valued : c.each_within.result ≡ each_within a.rules.floor most_value a.job.now.values = within_as c.value_bounds-worth.ensures.0 c.value_bounds-worth.ensures.1 c.each_within.ensures in
    within_as c.copies_bounds-counts.ensures.0 c.copies_bounds-counts.ensures.1 c.each_within-2.ensures
    ∙ rest_copies c.args.rules needs_sum job kept (sym valued ∙ c.if-not-each_within.false)
