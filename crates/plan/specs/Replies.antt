-- What the program answers to its input, in the slices that it lends.
-- Assumes nothing.
use Rattle.std.specs.Prelude.{ℕ, ◌+◌, ◌*◌, ◌≤◌, ◌<◌, List, [], length, replicate, take}
use Rattle.meaning.specs.Says.{Answer}
use Rattle.meaning.specs.Says as Says
use Rattle.meaning.specs.Lent.{Lent, lent_of}
use Rattle.meaning.specs.Bytes.{read_job}
use Rattle.meaning.specs.Solved.{SolvedBytes}
use Rattle.meaning.specs.Told.{kind_read, labels_read}
use Rattle.print.specs.Lines.{lines_of}
use Rattle.print.specs.Puts.{PutFirst}
use Rattle.plan.specs.Picks.{picks_written}

-- how many cells, words and picks the program lends
abbrev pub our_cells : ℕ
our_cells = 8_192

abbrev pub our_words : ℕ
our_words = 1_024

abbrev pub our_picks : ℕ
our_picks = 1_024

-- its slices, as they are lent
unfoldable pub our_slices : Lent
our_slices = lent_of (replicate our_cells 0) (replicate our_words 0) (replicate our_picks 0)

-- the lines of the planner's answer to these bytes stand at the start of the slice, and `size` is how long they are
pub record JobReplied (bytes before after : List ℕ) (size : ℕ) : Type 0 where
  pub answer : Answer
  pub left : Lent
  pub solved : SolvedBytes bytes our_slices answer left
  pub put :
      PutFirst (lines_of (kind_read (read_job bytes)) answer (take (picks_written answer (labels_read (read_job bytes))) left.picks)) before after size

-- how many bytes a job may have
unfoldable pub most_input : ℕ
most_input = 16_384

-- how many bytes a slice needs for any lines: 128, and 21 for each pick that is lent
abbrev pub lines_room : ℕ
lines_room = 128 + 21 * our_picks

-- the lines that answer any input: longer input is refused with 4, before all else
pub data Replied (input before after : List ℕ) (size : ℕ) : Type 0 where
  longer : most_input < length input → PutFirst (lines_of 0 (Says.Refused 4) []) before after size → Replied input before after size
  a_job : length input ≤ most_input → JobReplied input before after size → Replied input before after size
