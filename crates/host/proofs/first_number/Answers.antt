-- `host::first_number` meets its contract, case by case.
use native.Mathlib.Omega.{arith}
use Rattle.meaning.specs.Answers.{answer_numbers}
use Rattle.meaning.specs.Host.{first_number}
use Rattle.meaning.proofs.Tally.{one_or_none}
use Rattle.host.proofs.first_number.Goals as goal

pub returns-in-Knapsack : goal.returns-in-Knapsack
unfolding answer_numbers first_number
returns-in-Knapsack c = rw c.in-Knapsack.is (omega arith)

pub returns-in-Sums : goal.returns-in-Sums
unfolding answer_numbers first_number
returns-in-Sums c = rw c.in-Sums.is (omega (arith, one_or_none c.in-Sums.yes))

pub returns-in-Blocks : goal.returns-in-Blocks
unfolding answer_numbers first_number
returns-in-Blocks c = rw c.in-Blocks.is (omega arith)

pub returns-in-Ways : goal.returns-in-Ways
unfolding answer_numbers first_number
returns-in-Ways c = rw c.in-Ways.is (omega arith)

pub returns-in-Shares : goal.returns-in-Shares
unfolding answer_numbers first_number
returns-in-Shares c = rw c.in-Shares.is (omega arith)

pub returns-in-Weight : goal.returns-in-Weight
unfolding answer_numbers first_number
returns-in-Weight c = rw c.in-Weight.is (omega arith)
