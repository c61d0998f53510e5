-- `print::put_refused` meets its contract: its one line is the line that `put_line` puts.
use native.Mathlib.Omega.{arith}
use Rattle.print.specs.Lines.{ascii}
use Rattle.print.proofs.Joined.{first_put}
use Rattle.print.proofs.put_refused.Goals as goal

pub put_line-requires : goal.put_line-requires
unfolding ascii
put_line-requires c = omega (arith, c.requires)

pub returns : goal.returns
unfolding ascii
returns c = first_put c.put_line.ensures
