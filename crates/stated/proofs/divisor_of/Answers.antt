-- `stated::divisor_of` meets its contract: the greater number is that of the definition.
use Rattle.stated.proofs.divisor_of.Goals as goal

pub returns : goal.returns
returns c = c.max.ensures
