-- `rules::knapsack_rules` meets its contract, for each of the three knapsacks.
use Rattle.meaning.specs.Job.{packing}
use Rattle.meaning.specs.Bounds.{most_labels, most_budget}
use Rattle.meaning.proofs.Laws.{kind_number}
use Rattle.rules.proofs.Ruling.{Floor, one_for_3, none_else, knapsack_as}
use Rattle.rules.proofs.knapsack_rules.Goals as goal
use Rattle.rules.proofs.knapsack_rules.Goals.{then-kind-eq3, else-kind-eq3}

pub returns : goal.returns
unfolding most_budget most_labels
returns c k e =
    let least : Floor c.args.kind c.if-kind-eq3.floor = elim c.if-kind-eq3.branch [ then-kind-eq3 w ↦ one_for_3 w.if-kind-eq3.true w.floor-is | else-kind-eq3 w ↦ none_else w.if-kind-eq3.false w.floor-is ] in
    knapsack_as k c.args.kind c.if-kind-eq3.floor (kind_number c.args.kind (packing k) e) least
