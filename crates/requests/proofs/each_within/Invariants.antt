-- `requests::each_within` meets its contract: what was tested so far is the promise of the part that was passed.
use lib.ListN.{take}
use Rattle.requests.specs.Judging.{EachWithin}
use Rattle.requests.proofs.each_within.Given as goal

abbrev pub invariant-loop-i : goal.invariant-loop-i
invariant-loop-i l = EachWithin l.low l.high (take l.i l.numbers) l.within
