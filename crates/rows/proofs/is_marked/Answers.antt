-- `rows::is_marked` meets its contract: the mark is the number of that name.
use mathlib.Core.Path.{refl}
use Rattle.meaning.specs.Cells.{no_way}
use Rattle.rows.proofs.is_marked.Goals as goal

pub returns : goal.returns
unfolding no_way
returns c = refl
