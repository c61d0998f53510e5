-- `rows::raise_stretch` meets its contract: the cells so far are swept by the new ones w places before them, and the row stays capped.
use lib.ListN.{length}
use Rattle.meaning.specs.Lists.{at}
use Rattle.rows.specs.Rows.{raised_by, Capped}
use Rattle.rows.proofs.Stores.{Sweeping}
use Rattle.rows.proofs.raise_stretch.Given as goal

abbrev pub invariant-loop-c : goal.invariant-loop-c
invariant-loop-c l = Sweeping (raised_by l.v) l.initial.row l.w l.from l.to l.c l.row × Capped (at l.row) (length l.initial.row)
