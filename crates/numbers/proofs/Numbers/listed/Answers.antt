-- `Numbers::listed` meets its contract: no bytes come after the numbers (`list_numbers`).
use mathlib.Core.Path.{◌∙◌}
use Rattle.numbers.proofs.TwoSlices.{list_numbers}
use Rattle.numbers.proofs.Numbers.listed.Goals as goal

pub returns : goal.returns
returns c = c.joined.ensures ∙ list_numbers c.args.numbers.now
