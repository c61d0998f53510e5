-- `print::put_picks` meets its contract. The loop's invariant: after the word the slice holds the picks passed, a blank before each, and
-- elsewhere what it held when the loop began.
use lib.ListN.{take}
use Rattle.numbers.specs.Placed.{WrittenAt}
use Rattle.print.specs.Lines.{after_blanks}
use Rattle.print.proofs.put_picks.Given as goal

abbrev pub invariant-loop-pick : goal.invariant-loop-pick
invariant-loop-pick l = WrittenAt l.initial.end (after_blanks (take l.pick-index l.picks)) l.initial.out l.out l.end
