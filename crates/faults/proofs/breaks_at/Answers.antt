-- `faults::breaks_at` meets its contract, budget by budget.
use Rattle.faults.proofs.Passes.{count_next, pass_next}
use Rattle.faults.proofs.breaks_at.Goals as goal

pub loop-c-preserved : goal.loop-c-preserved
loop-c-preserved c =
    let so_far = c.loop-c.invariant in
    count_next _ _ _ _ c.from-low.ensures so_far
    (pass_next _ _ _ _ _ _ _ _ _ _ c.is_below.ensures c.number_in-claim.ensures c.number_in-other.ensures so_far.told)
