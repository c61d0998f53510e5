-- `rules::shares_room` meets its contract: a pick for each label, whatever the budget (`shares_needed`).
use Rattle.rules.proofs.Places.{shares_needed}
use Rattle.rules.proofs.shares_room.Goals as goal

pub returns : goal.returns
returns c budget = shares_needed c.args.n budget
