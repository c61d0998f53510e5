-- `rules::blocks_room` meets its contract, kind by kind.
use Rattle.rules.proofs.Places.{ways_needed}
use Rattle.rules.proofs.blocks_room.Goals as goal

pub returns : goal.returns
returns c = (λ five. absurd (c.if-kind-eq5.false five), λ six. ways_needed c.args.n c.args.budget)
