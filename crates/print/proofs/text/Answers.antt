-- `print::text` meets its contract: the lines are those of the answer, or the line of the number that the refusal names.
use mathlib.Core.Path.{ap}
use Rattle.meaning.specs.Says.{said_by}
use Rattle.print.specs.Lines.{lines_of}
use Rattle.print.proofs.Joined.{case_room, case_put}
use Rattle.print.proofs.text.Goals as goal

pub put_answer-requires : goal.put_answer-requires
put_answer-requires g c = case_room c.args.kind c.args.picks.now (ap (said_by g.R.Numbered.numbered) c.in-Ok.is) c.requires

pub returns-in-Ok : goal.returns-in-Ok
returns-in-Ok g c = case_put c.args.kind c.args.picks.now (ap (said_by g.R.Numbered.numbered) c.in-Ok.is) c.put_answer.ensures

pub put_refused-requires : goal.put_refused-requires
unfolding lines_of
put_refused-requires g c =
    let is = ap (said_by g.R.Numbered.numbered) c.in-Err.is in
    rw c.number.ensures (case_room c.args.kind c.args.picks.now is c.requires)

pub returns-in-Err : goal.returns-in-Err
unfolding lines_of
returns-in-Err g c =
    let is = ap (said_by g.R.Numbered.numbered) c.in-Err.is in
    case_put c.args.kind c.args.picks.now is (rw c.number.ensures at c.put_refused.ensures)
