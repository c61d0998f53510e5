-- `rules::knapsack_room` meets its contract: one row in kind 3, all rows in the others, and their cells can be counted.
use mathlib.Core.Path.{sym, ◌∙◌}
use Rattle.meaning.specs.Job.{packing}
use Rattle.meaning.specs.Bounds.{most_labels, most_budget}
use Rattle.meaning.proofs.Laws.{kind_number}
use Rattle.rules.proofs.Places.{one_row, all_rows}
use Rattle.rules.proofs.knapsack_room.Goals as goal

pub returns-then-kind-eq3 : goal.returns-then-kind-eq3
unfolding most_budget most_labels
returns-then-kind-eq3 c k e =
    one_row k _ _ _ _ c.min-labels.ensures c.min-width.ensures
    (sym (kind_number c.args.kind (packing k) e) ∙ c.if-kind-eq3.true)

pub returns : goal.returns
unfolding most_budget most_labels
returns c k e =
    all_rows k _ _ _ _ c.min-labels.ensures c.min-width.ensures
    (λ three. c.if-kind-eq3.false (kind_number c.args.kind (packing k) e ∙ three))
