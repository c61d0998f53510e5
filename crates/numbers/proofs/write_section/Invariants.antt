-- `numbers::write_section` meets its contract. The loop's invariant: after the count, the slice holds the numbers passed, and elsewhere
-- what it held when the loop began.
use lib.ListN.{take}
use Rattle.meaning.specs.Bytes.{bytes_of_all}
use Rattle.numbers.specs.Placed.{HoldsAt}
use Rattle.numbers.proofs.write_section.Given as goal

abbrev pub invariant-loop-i : goal.invariant-loop-i
invariant-loop-i l = HoldsAt l.start (bytes_of_all (take l.i l.numbers)) l.initial.out l.out
