-- `behind::add_label` meets its contract: the cells from t on are made and those below are as they were, so that each is made by an old one.
use Rattle.rows.proofs.Stores.{Descending}
use Rattle.behind.specs.Firsts.{first_by}
use Rattle.behind.proofs.add_label.Given as goal

abbrev pub invariant-loop-t : goal.invariant-loop-t
invariant-loop-t l = Descending (first_by l.i) l.initial.row l.w l.t l.row
