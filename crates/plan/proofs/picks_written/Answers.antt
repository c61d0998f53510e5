-- `plan::picks_written` meets its contract: an answer has its picks, and a refusal none.
use mathlib.Core.Path.{refl}
use Rattle.plan.specs.Picks.{picks_written}
use Rattle.plan.proofs.picks_written.Goals as goal

pub returns-in-Ok : goal.returns-in-Ok
returns-in-Ok c = rw c.in-Ok.is c.picks_of.ensures

pub returns-in-Err : goal.returns-in-Err
unfolding picks_written
returns-in-Err c = rw c.in-Err.is refl
