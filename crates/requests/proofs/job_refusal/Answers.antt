-- `requests::job_refusal` meets its contract: the tests in their order, and the number of the first that fails.
use mathlib.Core.Path.{sym, ◌∙◌}
use Rattle.requests.proofs.Judging.{lists_told, bounds_told, refused_3, refused_4, refused_5, not_yet}
use Rattle.requests.proofs.job_refusal.Goals as goal

pub returns-then-not-listed : goal.returns-then-not-listed
returns-then-not-listed c kind needs_sum =
    let listed = lists_told c.args.rules needs_sum kind c.args.job.now _ c.len-n.ensures c.lists_fit-listed.ensures c.len.ensures c.len-2.ensures in
    refused_3 _ _ 0 (sym listed ∙ c.if-not-listed.true)

pub returns-then-not-bounded : goal.returns-then-not-bounded
returns-then-not-bounded c kind needs_sum =
    let listed = lists_told c.args.rules needs_sum kind c.args.job.now _ c.len-n.ensures c.lists_fit-listed.ensures c.len.ensures c.len-2.ensures in
    let bounded = bounds_told c.args.rules needs_sum kind c.args.job.now _ c.len-n.ensures c.bounds_fit-bounded.ensures in
    refused_4 _ _ 0 (sym listed ∙ c.if-not-listed.false) (sym bounded ∙ c.if-not-bounded.true)

pub returns-then-not-numbers_fit : goal.returns-then-not-numbers_fit
returns-then-not-numbers_fit c kind needs_sum =
    let listed = lists_told c.args.rules needs_sum kind c.args.job.now _ c.len-n.ensures c.lists_fit-listed.ensures c.len.ensures c.len-2.ensures in
    let bounded = bounds_told c.args.rules needs_sum kind c.args.job.now _ c.len-n.ensures c.bounds_fit-bounded.ensures in
    refused_5 _ _ 0 (sym listed ∙ c.if-not-listed.false) (sym bounded ∙ c.if-not-bounded.false)
    (sym (c.numbers_fit.ensures kind needs_sum) ∙ c.if-not-numbers_fit.true)

pub returns : goal.returns
returns c kind needs_sum =
    let listed = lists_told c.args.rules needs_sum kind c.args.job.now _ c.len-n.ensures c.lists_fit-listed.ensures c.len.ensures c.len-2.ensures in
    let bounded = bounds_told c.args.rules needs_sum kind c.args.job.now _ c.len-n.ensures c.bounds_fit-bounded.ensures in
    not_yet _ _ 0 (sym listed ∙ c.if-not-listed.false) (sym bounded ∙ c.if-not-bounded.false)
    (sym (c.numbers_fit.ensures kind needs_sum) ∙ c.if-not-numbers_fit.false)
