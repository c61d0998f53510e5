-- `numbers::write_section` meets its contract. The loop's invariant: after the count, the slice holds the numbers passed, and elsewhere
-- what it held when the loop began.
use native.Mathlib.Omega.{arith}
use Rattle.meaning.specs.Bytes.{bytes_of_all}
use Rattle.meaning.proofs.Numbers.{section_long}
use Rattle.numbers.proofs.Placed.{nothing}
use Rattle.numbers.proofs.Sections.{turn, whole}
use Rattle.numbers.proofs.write_section.Goals as goal

pub write_number-requires : goal.write_number-requires
write_number-requires c = omega (arith, section_long c.args.numbers.now)

pub loop-i-init : goal.loop-i-init
unfolding bytes_of_all
loop-i-init c = nothing _ _

pub write_number-requires-in-loop-i : goal.write_number-requires-in-loop-i
write_number-requires-in-loop-i c = omega (arith, c.write_number.auto, section_long c.args.numbers.now)

pub loop-i-preserved : goal.loop-i-preserved
loop-i-preserved c =
    turn _ _ _ _ _ c.loop-i.i (omega arith) (omega (arith, c.write_number.auto, section_long c.args.numbers.now))
    c.loop-i.invariant c.write_number-in-loop-i.ensures

pub returns : goal.returns
returns c = record {
  written = whole _ _ _ _ _ c.loop-i.i (omega arith) c.requires.0 c.write_number.ensures c.loop-i.invariant;
  ends = omega (arith, section_long c.args.numbers.now);
}
