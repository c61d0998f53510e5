-- `print::put_line` meets its contract: the name, the number and a line end, one after the other.
use native.Mathlib.Omega.{arith}
use Rattle.print.specs.Lines.{ascii}
use Rattle.print.proofs.Lengths.{line_long}
use Rattle.print.proofs.Joined.{line_put}
use Rattle.print.proofs.put_line.Goals as goal

pub put_bytes-blank-requires : goal.put_bytes-blank-requires
put_bytes-blank-requires c = omega (arith, line_long c.args.name.now c.args.x)

pub put_number-line_end-requires : goal.put_number-line_end-requires
put_number-line_end-requires c = omega (arith, line_long c.args.name.now c.args.x)

pub put_bytes-requires : goal.put_bytes-requires
put_bytes-requires c = omega (arith, line_long c.args.name.now c.args.x)

pub returns : goal.returns
unfolding ascii
returns c =
    line_put c.args.name.now c.args.x c.requires c.put_bytes-blank.auto.out
    c.put_bytes-blank.ensures c.put_number-line_end.ensures c.put_bytes.ensures
