-- `numbers::number_in` meets its contract, by the law of what stands at a place of the numbers in bytes.
use mathlib.Core.Path.{sym, ◌∙◌}
use native.Mathlib.Omega.{arith}
use Rattle.meaning.proofs.Numbers.{numbers_at, numbers_long}
use Rattle.numbers.proofs.number_in.Goals as goal

pub overflow_mul-i : goal.overflow_mul-i
overflow_mul-i c = omega (arith, numbers_long c.args.bytes.now)

pub number_at-requires : goal.number_at-requires
number_at-requires c = omega (arith, numbers_long c.args.bytes.now)

pub returns : goal.returns
returns c = c.number_at.ensures ∙ sym (numbers_at c.args.bytes.now c.args.i c.requires)
