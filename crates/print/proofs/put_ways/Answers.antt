-- `print::put_ways` meets its contract: its two lines are those that `put_head` puts.
use Rattle.print.specs.Lines.{ascii}
use Rattle.print.proofs.Joined.{first_put}
use Rattle.print.proofs.put_ways.Goals as goal

pub put_head-requires : goal.put_head-requires
unfolding ascii
put_head-requires c = c.requires

pub returns : goal.returns
unfolding ascii
returns c = first_put c.put_head.ensures
