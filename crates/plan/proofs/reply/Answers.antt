-- `plan::reply` meets its contract: longer input is refused with 4, and any other is replied to as a job.
use mathlib.Core.List.{[]}
use native.Mathlib.Omega.{arith}
use Rattle.meaning.specs.Says as Says
use Rattle.print.proofs.Lengths.{lines_room}
use Rattle.plan.specs.Replies.{a_job, longer, most_input}
use Rattle.plan.proofs.reply.Goals as goal

pub text-requires : goal.text-requires
text-requires c = omega (arith, lines_room 0 (Says.Refused 4) [], c.requires)

pub returns-then-input-gt-MOST_INPUT : goal.returns-then-input-gt-MOST_INPUT
unfolding most_input
returns-then-input-gt-MOST_INPUT c =
    longer c.if-input-gt-MOST_INPUT.true c.text.ensures

pub returns : goal.returns
unfolding most_input
returns c =
    a_job c.if-input-gt-MOST_INPUT.false c.reply_to_job.ensures
