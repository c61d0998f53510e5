-- `write_starts` keeps every start, and gives the spare and how far the remainders reach.
use mathlib.Core.Path.{◌≡◌}
use Prim.Native.Nat.{◌+◌}
use lib.ListN.{take}
use Rattle.meaning.specs.Lists.{sum}
use Rattle.meaning.specs.Shares.{start_of}
use Rattle.rows.specs.Rows.{Stored}
use Rattle.shares.specs.Borders.{Reaches}
use Rattle.shares.proofs.Starts.{starts}
use Rattle.shares.proofs.Claims.write_starts.Given as goal

abbrev pub invariant-loop-i : goal.invariant-loop-i
invariant-loop-i l = Stored l.initial.shares l.shares 0 0 l.i (start_of l.self)
    × (l.spare + sum (take l.i (starts l.self)) ≡ l.self.budget)
    × Reaches l.self l.i 0 (sum l.self.weights) l.least l.greatest
