-- `Numbers::len` meets its contract, by the law of a list's length in two parts.
use mathlib.Core.Path.{sym, ap, ◌∙◌}
use lib.ListN.{length}
use Rattle.numbers.proofs.TwoSlices.{list_long}
use Rattle.numbers.proofs.Numbers.len.Goals as goal

pub returns : goal.returns
returns c = let k = c.self.inside.kept in sym (list_long k.numbers.now k.bytes.now) ∙ ap length c.self.view_is
