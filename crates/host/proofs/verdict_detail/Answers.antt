-- `host::verdict_detail` meets its contract, case by case.
use native.Mathlib.Omega.{arith}
use Rattle.meaning.specs.Answers.{verdict_numbers}
use Rattle.meaning.specs.Host.{value_or_place}
use Rattle.host.proofs.verdict_detail.Goals as goal

pub returns-in-Ok : goal.returns-in-Ok
unfolding value_or_place verdict_numbers
returns-in-Ok c = rw c.in-Ok.is (omega arith)

pub returns-in-Err : goal.returns-in-Err
unfolding value_or_place verdict_numbers
returns-in-Err c = rw c.in-Err.is (omega arith)
