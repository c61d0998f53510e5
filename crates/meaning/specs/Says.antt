-- What the planner says: a refusal number, or the numbers of the job's kind.
-- Assumes nothing.
use Rattle.std.specs.Prelude.{ℕ, Bool, Result, Ok, Err}
use Rattle.meaning.specs.declared.Refusal.{Refusal}
use Rattle.meaning.specs.declared.Answer.{Answer as Given}
use Rattle.meaning.specs.declared.Answer.TheVariants as Gives
use Rattle.meaning.specs.Refusing.{number_of}

pub data Answer : Type 0 where
  Refused : ℕ → Answer
  Knapsack : (value weight : ℕ) → Answer
  Sums : (yes : Bool) → (totals : ℕ) → Answer
  Blocks Ways Shares Weight : ℕ → Answer

-- what an answer says
abbrev pub given : Given → Answer
given (Gives.Knapsack value weight) = Knapsack value weight
given (Gives.Sums reached totals) = Sums reached totals
given (Gives.Blocks blocks) = Blocks blocks
given (Gives.Ways ways) = Ways ways
given (Gives.Shares spare) = Shares spare
given (Gives.Weight weight) = Weight weight

-- what is said by what was handed back, a refusal by the number that its error names
abbrev pub said_by : {R : Type 0} → (R → ℕ) → Result Given R → Answer
said_by number (Ok answer) = given answer
said_by number (Err why) = Refused (number why)

-- what is said by what was handed back
abbrev pub said : Result Given Refusal → Answer
said answer = said_by number_of answer
