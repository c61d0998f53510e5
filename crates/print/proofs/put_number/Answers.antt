-- `print::put_number` meets its contract: a blank, and the digits that `io::decimal` made, which are the number in decimal.
use mathlib.Core.Path.{◌≡◌, ap, ◌∙◌}
use native.Mathlib.Omega.{arith}
use lib.ListN.{length, take}
use Rattle.print.specs.Lines.{ascii, decimal_of}
use Rattle.print.proofs.Decimal.{digits_told}
use Rattle.print.proofs.Lengths.{number_long}
use Rattle.print.proofs.Joined.{number_put}
use Rattle.print.proofs.put_number.Goals as goal

pub put_bytes-start-requires : goal.put_bytes-start-requires
put_bytes-start-requires c = omega (arith, number_long c.args.x)

pub put_bytes-requires : goal.put_bytes-requires
put_bytes-requires c =
    let told : take c.decimal-count.result c.decimal-count.new.out ≡ decimal_of c.args.x =
    c.decimal-count.ensures.digits ∙ digits_told _ _ (omega arith) c.decimal-count.ensures.len in
    omega (arith, ap length told, number_long c.args.x)

pub returns : goal.returns
unfolding ascii
returns c =
    let told : take c.decimal-count.result c.decimal-count.new.out ≡ decimal_of c.args.x =
    c.decimal-count.ensures.digits ∙ digits_told _ _ (omega arith) c.decimal-count.ensures.len in
    number_put c.args.x c.requires told c.put_bytes-start.ensures c.put_bytes.ensures
