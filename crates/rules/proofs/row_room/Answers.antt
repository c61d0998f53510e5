-- `rules::row_room` meets its contract: a cell for each amount or total, and a pick for each size or label.
use Rattle.rules.proofs.Places.{fewest_needed, behind_needed}
use Rattle.rules.proofs.row_room.Goals as goal

pub returns : goal.returns
returns c = (fewest_needed c.args.n c.args.budget, behind_needed c.args.n c.args.budget)
