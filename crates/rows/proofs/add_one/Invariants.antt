-- `rows::add_one` meets its contract: the cells from c on are stored and those below are as they were, so that each is raised by an old one.
use Rattle.rows.specs.Rows.{raised_by}
use Rattle.rows.proofs.Stores.{Descending}
use Rattle.rows.proofs.add_one.Given as goal

abbrev pub invariant-loop-c : goal.invariant-loop-c
invariant-loop-c l = Descending (raised_by l.v) l.initial.row l.w l.c l.row
