-- `planner::tell` meets its contract: what the bytes are read as is decided.
use Rattle.requests.proofs.Reading.{read_in, unread}
use Rattle.planner.proofs.Telling.{told_read, told_unread}
use Rattle.planner.proofs.tell.Goals as goal

pub returns-in_default : goal.returns-in_default
returns-in_default c = told_unread _ _ (unread _ c.in_default.is c.read_job.ensures)

pub returns : goal.returns
returns c =
    told_read _ _ _ _ _ _ _ _ _ _ (read_in _ c.in-Ok.is c.read_job.ensures) c.len.ensures c.decide.ensures
