-- What the C entries give: numbers in place of an enum.
-- Assumes nothing.
use Rattle.std.specs.Prelude.{◌≡◌, ℕ, ◌+◌, List}
use Rattle.meaning.specs.Says.{Answer}
use Rattle.meaning.specs.declared.Way.{Way}
use Rattle.meaning.specs.declared.Way.TheVariants.{Light, Full}
use Rattle.meaning.specs.Judges.{Verdict}
use Rattle.meaning.specs.Reports.{Written}
use Rattle.meaning.specs.Hands.{Quick}
use Rattle.meaning.specs.Job.{Job}
use Rattle.meaning.specs.Lent.{Lent}
use Rattle.meaning.specs.Answers.{AnswerNumbers, verdict_numbers, answer_numbers, written_numbers, quick_numbers}
use Rattle.meaning.specs.Solved.{SolvedBytesBy}
use Rattle.meaning.specs.Writer.{WritesBytes}
use Rattle.meaning.specs.Quick.{Filled}

-- ---- the checker's two entries

-- the first gives 0 for accepted, or the refusal number
unfoldable pub refusal_number : Verdict → ℕ
refusal_number v = (verdict_numbers v).refusal

-- the second gives the value or the place, of which one is 0
unfoldable pub value_or_place : Verdict → ℕ
value_or_place v = (verdict_numbers v).value + (verdict_numbers v).place

-- ---- the planner's two entries, one for each way

-- the value, yes, the blocks, the ways, the spare or kind 8's weight: an answer has one of them, and the others are 0
unfoldable pub first_number : AnswerNumbers → ℕ
first_number s = s.value + s.yes + s.blocks + s.ways + s.spare + s.exact

-- the weight beside a value, or the totals: an answer has at most one of them
unfoldable pub second_number : AnswerNumbers → ℕ
second_number s = s.weight + s.totals

-- job bytes, called with the slices as `before`: the refusal number or 0, the two numbers, and the slices as `after`
pub record SolvedHostBy (way : Way) (jobB : List ℕ) (before : Lent) (r first second : ℕ) (after : Lent) : Type 0 where
  pub answer : Answer
  pub solved : SolvedBytesBy way jobB before answer after
  pub refusal : r ≡ (answer_numbers answer).refusal
  pub first_is : first ≡ first_number (answer_numbers answer)
  pub second_is : second ≡ second_number (answer_numbers answer)

-- by the light way
abbrev pub SolvedHost : List ℕ → Lent → ℕ → ℕ → ℕ → Lent → Type 0
SolvedHost jobB before r first second after = SolvedHostBy Light jobB before r first second after

-- by the full way
abbrev pub SolvedFullHost : List ℕ → Lent → ℕ → ℕ → ℕ → Lent → Type 0
SolvedFullHost jobB before r first second after = SolvedHostBy Full jobB before r first second after

-- ---- the writer's entry

-- job bytes, picks and cells: the refusal number or 0, the bytes written, and `after` in the byte slice
pub record WritesHost (jobB picks cells before : List ℕ) (r bytes : ℕ) (after : List ℕ) : Type 0 where
  pub answer : Written
  pub writes : WritesBytes jobB picks cells before answer after
  pub refusal : r ≡ (written_numbers answer).refusal
  pub bytes_are : bytes ≡ (written_numbers answer).bytes

-- ---- the entry of the quick answer

-- a job and its two lists: the refusal number or 0, which list is the worthier, what that is worth, and the lists as they are after the call
pub record QuickHost (j : Job) (first second : List ℕ) (r which value : ℕ) (first' second' : List ℕ) : Type 0 where
  pub answer : Quick
  pub filled : Filled j first second answer first' second'
  pub refusal : r ≡ (quick_numbers answer).refusal
  pub which_is : which ≡ (quick_numbers answer).which
  pub value_is : value ≡ (quick_numbers answer).value
