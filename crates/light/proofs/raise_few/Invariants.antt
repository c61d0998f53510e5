-- `light::raise_few` meets its contract: the cells from k on are raised by old ones, and their bits are in hand (`falling_more`).
use Rattle.light.proofs.Rising.{Falling}
use Rattle.light.proofs.raise_few.Given as goal

abbrev pub invariant-loop-k : goal.invariant-loop-k
invariant-loop-k l = Falling l.initial.row l.c l.w l.v l.n l.k l.row l.bits
