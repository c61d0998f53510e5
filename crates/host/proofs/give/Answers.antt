-- `host::give` meets its contract: an answer by its two numbers, a refusal by its own.
use mathlib.Core.Path.{◌≡◌, refl}
use Rattle.meaning.specs.Answers.{answer_numbers}
use Rattle.meaning.specs.Host.{first_number, second_number}
use Rattle.meaning.specs.Says.{given}
use Rattle.meaning.specs.declared.Answer.{Answer}
use Rattle.meaning.specs.declared.Answer.TheVariants as Gives
use Rattle.host.proofs.give.Goals as goal

-- an answer has no refusal number
unrefused : (a : Answer) → 0 ≡ (answer_numbers (given a)).refusal
unfolding answer_numbers
unrefused (Gives.Knapsack value weight) = refl
unrefused (Gives.Sums reached totals) = refl
unrefused (Gives.Blocks blocks) = refl
unrefused (Gives.Ways ways) = refl
unrefused (Gives.Shares spare) = refl
unrefused (Gives.Weight weight) = refl

pub returns-in-Ok : goal.returns-in-Ok
returns-in-Ok c = rw c.in-Ok.is (unrefused c.in-Ok.answer, (c.first_number.ensures, c.second_number.ensures))

pub returns-in-Err : goal.returns-in-Err
unfolding answer_numbers first_number second_number
returns-in-Err c = rw c.in-Err.is (c.number.ensures, (refl, refl))
