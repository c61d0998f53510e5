-- The numbers of each answer, verdict and report, from Rattle and from C: 0 in every number that its case hasn't got; and ways that are many; and what
-- is said by what was handed back.
-- Assumes nothing.
use mathlib.Core.Path.{◌≡◌, refl}
use Prim.Native.Nat.{ℕ}
use mathlib.Core.Bool.{false, true}
use mathlib.Core.List.{[], ◌∷◌}
use Rattle.std.specs.Prelude.{Err, Ok}
use Rattle.meaning.specs.declared.Answer.{Answer as Given}
use Rattle.meaning.specs.declared.Refusal.{Refusal}
use Rattle.meaning.specs.Refusing.{number_of}
use Rattle.meaning.specs.Says.{Answer, given, said, said_by}
use Rattle.meaning.specs.Says as Says
use Rattle.meaning.specs.Judges.{Accepted, Refused}
use Rattle.meaning.specs.Reports as Reports
use Rattle.meaning.specs.Answers.{is_blocks, is_knapsack, is_refusal, is_shares, is_sums}
use Rattle.meaning.specs.Answers.{is_ways, is_weight, verdict_numbers, answer_numbers, written_numbers}
use Rattle.meaning.specs.Solved.{ways_answer}
use Rattle.meaning.specs.Host.{first_number, refusal_number, second_number, value_or_place}
use Rattle.meaning.proofs.Opens.{opens}
use Rattle.meaning.proofs.Computing.{Computes, ◌gives◌}

-- what is handed back says its answer, a reason its number, and a number itself
said_answer : (a : Given) → said (Ok a) ≡ given a
said_answer a = refl

said_reason : (why : Refusal) → said (Err why) ≡ Says.Refused (number_of why)
said_reason why = refl

said_number : (n : ℕ) → said_by (λ number. number) (Err n) ≡ Says.Refused n
said_number n = refl

answer_numbers_lem : Computes answer_numbers (
    Says.Refused 5 gives record { case = is_refusal; refusal = 5; value = 0; weight = 0; yes = 0; totals = 0; blocks = 0; ways = 0; spare = 0; exact = 0 }
    ∷ Says.Knapsack 9 7 gives record { case = is_knapsack; refusal = 0; value = 9; weight = 7; yes = 0; totals = 0; blocks = 0; ways = 0; spare = 0; exact = 0 }
    ∷ Says.Sums true 4 gives record { case = is_sums; refusal = 0; value = 0; weight = 0; yes = 1; totals = 4; blocks = 0; ways = 0; spare = 0; exact = 0 }
    ∷ Says.Sums false 3 gives record { case = is_sums; refusal = 0; value = 0; weight = 0; yes = 0; totals = 3; blocks = 0; ways = 0; spare = 0; exact = 0 }
    ∷ Says.Blocks 2 gives record { case = is_blocks; refusal = 0; value = 0; weight = 0; yes = 0; totals = 0; blocks = 2; ways = 0; spare = 0; exact = 0 }
    ∷ Says.Ways 4 gives record { case = is_ways; refusal = 0; value = 0; weight = 0; yes = 0; totals = 0; blocks = 0; ways = 4; spare = 0; exact = 0 }
    ∷ Says.Shares 1 gives record { case = is_shares; refusal = 0; value = 0; weight = 0; yes = 0; totals = 0; blocks = 0; ways = 0; spare = 1; exact = 0 }
    ∷ Says.Weight 8 gives record { case = is_weight; refusal = 0; value = 0; weight = 0; yes = 0; totals = 0; blocks = 0; ways = 0; spare = 0; exact = 8 }
    ∷ []
    )
unfolding opens
answer_numbers_lem = refl

verdict_numbers_lem : Computes verdict_numbers (
    Accepted 3 gives record { accepts = true; refusal = 0; value = 3; place = 0 }
    ∷ Refused 14 5 gives record { accepts = false; refusal = 14; value = 0; place = 5 }
    ∷ []
    )
unfolding opens
verdict_numbers_lem = refl

report_numbers : Computes written_numbers (
    Reports.Bytes 12 gives record { done = true; refusal = 0; bytes = 12 }
    ∷ Reports.Refused 6 gives record { done = false; refusal = 6; bytes = 0 }
    ∷ []
    )
unfolding opens
report_numbers = refl

-- the checker's two C entries
first_entry : Computes refusal_number (Accepted 3 gives 0 ∷ Refused 14 5 gives 14 ∷ [])
unfolding opens refusal_number
first_entry = refl

second_entry : Computes value_or_place (Accepted 3 gives 3 ∷ Refused 14 5 gives 5 ∷ [])
unfolding opens value_or_place
second_entry = refl

-- the planner's entry: the first and the second number of each answer
abbrev first_said : Answer → ℕ
first_said a = first_number (answer_numbers a)

first_numbers : Computes first_said (
    Says.Refused 5 gives 0
    ∷ Says.Knapsack 9 7 gives 9
    ∷ Says.Sums true 4 gives 1
    ∷ Says.Sums false 3 gives 0
    ∷ Says.Blocks 2 gives 2
    ∷ Says.Ways 4 gives 4
    ∷ Says.Shares 6 gives 6
    ∷ Says.Weight 8 gives 8
    ∷ []
    )
unfolding opens first_number
first_numbers = refl

abbrev second_said : Answer → ℕ
second_said a = second_number (answer_numbers a)

second_numbers : Computes second_said (
    Says.Refused 5 gives 0
    ∷ Says.Knapsack 9 7 gives 7
    ∷ Says.Sums true 4 gives 4
    ∷ Says.Sums false 3 gives 3
    ∷ Says.Blocks 2 gives 0
    ∷ Says.Ways 4 gives 0
    ∷ Says.Shares 6 gives 0
    ∷ Says.Weight 8 gives 0
    ∷ []
    )
unfolding opens second_number
second_numbers = refl

-- 8: ways are exact up to 2^64 - 2
many_ways : Computes ways_answer (
    0 gives Says.Ways 0  -- an ordinary answer
    ∷ 18_446_744_073_709_551_614 gives Says.Ways 18_446_744_073_709_551_614  -- 2^64 - 2
    ∷ 18_446_744_073_709_551_615 gives Says.Refused 8  -- 2^64 - 1
    ∷ []
    )
unfolding opens
many_ways = refl
