-- `count_ahead` counts the labels at a border or before it.
use mathlib.Core.Path.{◌≡◌}
use Rattle.meaning.specs.Lists.{up_to, tally}
use Rattle.shares.specs.Borders.{ahead_in}
use Rattle.shares.proofs.Claims.count_ahead.Given as goal

abbrev pub invariant-loop-i : goal.invariant-loop-i
invariant-loop-i l = l.count ≡ tally (ahead_in l.self l.border) (up_to l.i)
