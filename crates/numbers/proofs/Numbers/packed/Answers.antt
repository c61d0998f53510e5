-- `Numbers::packed` meets its contract: no numbers come before the bytes.
use Rattle.numbers.specs.TwoSlices.{list_from}
use Rattle.numbers.proofs.Numbers.packed.Goals as goal

pub returns : goal.returns
unfolding list_from
returns c = c.joined.ensures
