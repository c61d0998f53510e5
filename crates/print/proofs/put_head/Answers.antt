-- `print::put_head` meets its contract: one line after the other.
use native.Mathlib.Omega.{arith}
use Rattle.print.specs.Lines.{ascii, head_lines}
use Rattle.print.proofs.Lengths.{head_long}
use Rattle.print.proofs.Joined.{both}
use Rattle.print.proofs.put_head.Goals as goal

pub put_line-next-requires : goal.put_line-next-requires
unfolding ascii
put_line-next-requires c = omega (arith, head_long c.args.kind c.args.name.now c.args.x)

pub put_line-requires : goal.put_line-requires
unfolding ascii
put_line-requires c = omega (arith, head_long c.args.kind c.args.name.now c.args.x)

pub returns : goal.returns
unfolding ascii head_lines
returns c =
    both (omega (arith, head_long c.args.kind c.args.name.now c.args.x)) c.put_line-next.ensures c.put_line.ensures
