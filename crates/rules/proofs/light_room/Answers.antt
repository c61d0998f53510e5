-- `rules::light_room` meets its contract: a row, and words for each label, which can be counted.
use Rattle.meaning.specs.Bounds.{most_labels, most_budget}
use Rattle.rules.proofs.Places.{light_needed}
use Rattle.rules.proofs.light_room.Goals as goal

pub returns : goal.returns
unfolding most_budget most_labels
returns c = light_needed _ _ _ _ c.min-labels.ensures c.min-top.ensures
