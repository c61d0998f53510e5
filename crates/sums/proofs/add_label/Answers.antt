-- `sums::add_label` meets its contract: the weight is its whole words and its bits, and a label that reaches past the last word changes nothing.
use mathlib.Core.Path.{◌≡◌}
use Prim.Native.Nat.{◌+◌, ◌*◌, ◌/◌, ◌%◌}
use native.Mathlib.Omega.{arith}
use Rattle.sums.proofs.add_label.Goals as goal

pub returns-then-r-eq0 : goal.returns-then-r-eq0
returns-then-r-eq0 c =
    let w = c.args.w in
    let whole : 64 * (w / 64) ≡ w = omega arith in
    rw whole at c.add_words.ensures

pub returns : goal.returns
returns c =
    let w = c.args.w in
    let whole : 64 * (w / 64) + w % 64 ≡ w = omega arith in
    rw whole at c.add_bits.ensures
