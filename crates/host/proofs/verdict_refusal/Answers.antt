-- `host::verdict_refusal` meets its contract, case by case.
use mathlib.Core.Path.{refl, ◌∙◌}
use Rattle.meaning.specs.Answers.{verdict_numbers}
use Rattle.meaning.specs.Host.{refusal_number}
use Rattle.host.proofs.verdict_refusal.Goals as goal

pub returns-in-Ok : goal.returns-in-Ok
unfolding refusal_number verdict_numbers
returns-in-Ok c = rw c.in-Ok.is refl

pub returns-in-Err : goal.returns-in-Err
unfolding refusal_number verdict_numbers
returns-in-Err c = rw c.in-Err.is c.number.ensures
