-- `give` makes the shares of the starts: the units go to the labels at the border or before it, and to the first ones next behind it.
use mathlib.Core.Path.{◌≡◌}
use Rattle.meaning.specs.Shares.{share_of}
use Rattle.rows.specs.Rows.{Stored}
use Rattle.shares.specs.Borders.{behind_of}
use Rattle.shares.proofs.Claims.give.Given as goal

abbrev pub invariant-loop-i : goal.invariant-loop-i
invariant-loop-i l = Stored l.initial.shares l.shares 0 0 l.i (share_of l.self) × (l.seen ≡ behind_of l.self l.border.remainder l.i)
