-- `print::put_sums` meets its contract: the head with 1 or 0 for yes or no, and the line of totals.
use native.Mathlib.Omega.{arith}
use Rattle.print.specs.Lines.{ascii}
use Rattle.print.proofs.Lengths.{sums_long}
use Rattle.print.proofs.Joined.{sums_put}
use Rattle.print.proofs.put_sums.Goals as goal

pub put_head-next-requires : goal.put_head-next-requires
unfolding ascii
put_head-next-requires c = omega (arith, sums_long c.args.kind c.args.yes c.args.totals)

pub put_line-requires : goal.put_line-requires
unfolding ascii
put_line-requires c = omega (arith, sums_long c.args.kind c.args.yes c.args.totals)

pub returns : goal.returns
unfolding ascii
returns c =
    sums_put c.args.kind c.args.yes c.args.totals c.requires c.put_head-next.ensures c.put_line.ensures
