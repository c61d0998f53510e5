-- `Rows::breaks_two` meets its contract: the budgets where one count fits, and then, budget by budget, those where both do.
use Rattle.std.proofs.Common.{◌≡◌, arith}
use Rattle.faults.proofs.Passes.{count_next}
use Rattle.faults.proofs.Pairs.{pair_next, two_found}
use Rattle.faults.proofs.Rows.breaks_two.Goals as goal

pub loop-c-preserved : goal.loop-c-preserved
loop-c-preserved c =
    let so_far = c.loop-c.invariant in
    count_next _ _ _ _ c.from-low.ensures so_far
    (pair_next _ _ _ _ _ _ _ _ _ _ _ _ _ c.is_below_either.ensures c.number_in-claim.ensures c.number_in-near.ensures
    c.number_in-other.ensures so_far.told)

pub returns : goal.returns
returns c =
    let all : c.loop-c.c ≡ c.args.left = omega arith in
    two_found _ _ _ _ _ _ _ _ (c.breaks_at.ensures.kept c.if-breaks_at.false) _ (rw all at c.loop-c.invariant.told)
