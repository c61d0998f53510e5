-- `requests::has_sum` meets its contract: a sum is positive where the numbers are not all 0.
use Rattle.requests.proofs.Judging.{not_all_0}
use Rattle.requests.proofs.has_sum.Goals as goal

pub returns : goal.returns
returns c =
    rw c.each_within.ensures.within (not_all_0 c.args.numbers.now)
