-- `host::second_number` meets its contract: a weight, totals, or any other case.
use mathlib.Core.Path.{◌≡◌, refl}
use mathlib.Core.Bool.{Bool}
use Prim.Native.Nat.{ℕ}
use Rattle.meaning.specs.declared.Answer.{Answer}
use Rattle.meaning.specs.declared.Answer.TheVariants as Gives
use Rattle.meaning.specs.Says.{given}
use native.Mathlib.Omega.{arith}
use Rattle.meaning.specs.Answers.{answer_numbers}
use Rattle.meaning.specs.Host.{second_number}
use Rattle.host.proofs.second_number.Goals as goal

-- every other case
others : (a : Answer) → ((v w : ℕ) → a ≡ Gives.Knapsack v w → ⊥) → ((y : Bool) (n : ℕ) → a ≡ Gives.Sums y n → ⊥)
    → 0 ≡ second_number (answer_numbers (given a))
unfolding second_number answer_numbers
others (Gives.Knapsack v w) other neither = absurd (other v w refl)
others (Gives.Sums y n) other neither = absurd (neither y n refl)
others (Gives.Blocks b) other neither = refl
others (Gives.Ways w) other neither = refl
others (Gives.Shares x) other neither = refl
others (Gives.Weight w) other neither = refl

pub returns-in-Knapsack : goal.returns-in-Knapsack
unfolding answer_numbers second_number
returns-in-Knapsack c = rw c.in-Knapsack.is (omega arith)

pub returns-in-Sums : goal.returns-in-Sums
unfolding answer_numbers second_number
returns-in-Sums c = rw c.in-Sums.is (omega arith)

pub returns-in_default : goal.returns-in_default
returns-in_default c = others c.args.answer c.in_default.not-Knapsack c.in_default.not-Sums
