-- The answers as the document's numbers. An answer is an enum, and for each of its cases a line gives the refusal number, 0 for
-- none, and the values. A number that the case hasn't got is 0, so a refusal has 0 in every other number, save a place where one
-- is named. The first field of each tells cases apart that have the same numbers.
-- Assumes nothing.
use Rattle.std.specs.Prelude.{ℕ, Bool, true, false}
use Rattle.meaning.specs.Says.{Answer}
use Rattle.meaning.specs.Says as Says
use Rattle.meaning.specs.Judges.{Verdict}
use Rattle.meaning.specs.Judges as Judges
use Rattle.meaning.specs.Reports.{Written}
use Rattle.meaning.specs.Reports as Reports
use Rattle.meaning.specs.Hands.{Quick}
use Rattle.meaning.specs.Hands as Hands
use Rattle.meaning.specs.Lists.{if}

-- ---- the planner's answer

-- which case it is
pub data Which : Type 0 where
  is_refusal is_knapsack is_sums is_blocks is_ways is_shares is_weight : Which

-- what it says. `exact` is kind 8's weight, which has no value beside it and comes first from C
pub record AnswerNumbers : Type 0 where
  pub case : Which
  pub refusal : ℕ
  pub value : ℕ
  pub weight : ℕ
  pub yes : ℕ
  pub totals : ℕ
  pub blocks : ℕ
  pub ways : ℕ
  pub spare : ℕ
  pub exact : ℕ

-- what each case says
unfoldable pub answer_numbers : Answer → AnswerNumbers
answer_numbers (Says.Refused r) = record { case = is_refusal; refusal = r; value = 0; weight = 0; yes = 0; totals = 0; blocks = 0; ways = 0; spare = 0; exact = 0 }
answer_numbers (Says.Knapsack v w) = record { case = is_knapsack; refusal = 0; value = v; weight = w; yes = 0; totals = 0; blocks = 0; ways = 0; spare = 0; exact = 0 }
answer_numbers (Says.Sums y n) = record { case = is_sums; refusal = 0; value = 0; weight = 0; yes = if y 1 0; totals = n; blocks = 0; ways = 0; spare = 0; exact = 0 }
answer_numbers (Says.Blocks b) = record { case = is_blocks; refusal = 0; value = 0; weight = 0; yes = 0; totals = 0; blocks = b; ways = 0; spare = 0; exact = 0 }
answer_numbers (Says.Ways w) = record { case = is_ways; refusal = 0; value = 0; weight = 0; yes = 0; totals = 0; blocks = 0; ways = w; spare = 0; exact = 0 }
answer_numbers (Says.Shares s) = record { case = is_shares; refusal = 0; value = 0; weight = 0; yes = 0; totals = 0; blocks = 0; ways = 0; spare = s; exact = 0 }
answer_numbers (Says.Weight w) = record { case = is_weight; refusal = 0; value = 0; weight = 0; yes = 0; totals = 0; blocks = 0; ways = 0; spare = 0; exact = w }

-- ---- the checker's verdict

-- what it says: whether it accepts, 0 or the refusal number, the value, and the place
pub record VerdictNumbers : Type 0 where
  pub accepts : Bool
  pub refusal : ℕ
  pub value : ℕ
  pub place : ℕ

-- what each case says
unfoldable pub verdict_numbers : Verdict → VerdictNumbers
verdict_numbers (Judges.Accepted v) = record { accepts = true; refusal = 0; value = v; place = 0 }
verdict_numbers (Judges.Refused r p) = record { accepts = false; refusal = r; value = 0; place = p }

-- ---- the writer's answer

-- what it says: whether it wrote, 0 or the refusal number, and the bytes written
pub record WrittenNumbers : Type 0 where
  pub done : Bool
  pub refusal : ℕ
  pub bytes : ℕ

-- what each case says
unfoldable pub written_numbers : Written → WrittenNumbers
written_numbers (Reports.Bytes n) = record { done = true; refusal = 0; bytes = n }
written_numbers (Reports.Refused r) = record { done = false; refusal = r; bytes = 0 }

-- ---- the quick answer

-- what it says: 0 or the refusal number, which of the two lists is the worthier, 1 or 2, and what that is worth
pub record QuickNumbers : Type 0 where
  pub refusal : ℕ
  pub which : ℕ
  pub value : ℕ

-- what each case says
unfoldable pub quick_numbers : Quick → QuickNumbers
quick_numbers (Hands.Refused r) = record { refusal = r; which = 0; value = 0 }
quick_numbers (Hands.First v) = record { refusal = 0; which = 1; value = v }
quick_numbers (Hands.Second v) = record { refusal = 0; which = 2; value = v }
