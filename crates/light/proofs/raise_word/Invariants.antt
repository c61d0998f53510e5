-- `light::raise_word` meets its contract: first the sums of the old row, then cell by cell what they raise (`raising_more`, `raising_all`).
use mathlib.Core.Path.{◌≡◌}
use Prim.Native.Nat.{ℕ, ◌+◌, ◌-◌, ◌<◌}
use lib.ListN.{length}
use Rattle.meaning.specs.Lists.{at}
use Rattle.light.proofs.Rising.{Raising}
use Rattle.light.proofs.raise_word.Given as goal

abbrev pub invariant-loop-k : goal.invariant-loop-k
invariant-loop-k l = (length l.sums ≡ 64) × ((m : ℕ) → m < l.k → at l.sums m ≡ at l.row (l.c + m - l.w) + l.v)

abbrev pub invariant-loop-i : goal.invariant-loop-i
invariant-loop-i l = Raising l.initial.row l.c l.w l.v l.i l.row l.bits
