-- What the program replies, by how its input was read; and that no second reply is left.
-- Assumes nothing.
use mathlib.Core.Path.{◌∙◌, ◌≡◌, ap}
use Prim.Native.Nat.{ℕ, ◌+◌, ◌≤◌, ◌<◌}
use native.Mathlib.Omega.{arith}
use mathlib.Core.List.{List, []}
use lib.ListN.{length, length-append, length-take, replicate, take, drop}
use lib.Seq.{take_all}
use Rattle.meaning.specs.Says.{Answer}
use Rattle.meaning.specs.Slices.{Holds}
use Rattle.meaning.specs.Lent.{Lent, lent_of}
use Rattle.meaning.specs.Bytes.{read_job}
use Rattle.meaning.specs.Told.{ToldBytes, kind_read, labels_read}
use Rattle.meaning.proofs.Unique.{no_second_choice_bytes}
use Rattle.print.specs.Lines.{ascii, lines_of}
use Rattle.print.proofs.Cases.{refusal}
use Rattle.print.proofs.Joined.{text_unique, written_out}
use Rattle.print.specs.Puts.{PutFirst}
use Rattle.plan.specs.Picks.{picks_written}
use Rattle.plan.specs.Replies.{JobReplied, Replied, a_job, longer, most_input, our_cells, our_words, our_picks, our_slices}

-- ---- to a job

-- what was told on slices as long as ours was told on ours
pub told_on_ours : {bytes : List ℕ} {kind n : ℕ} {a : Answer} {left : Lent} (cells words picks : ℕ) → cells ≡ our_cells → words ≡ our_words
    → picks ≡ our_picks → ToldBytes bytes (lent_of (replicate cells 0) (replicate words 0) (replicate picks 0)) kind n a left
    → ToldBytes bytes our_slices kind n a left
unfolding our_slices
told_on_ours cells words picks e f g told = rw (e, f, g) at told

-- the picks of a job are the first that the answer has written
pub replied : (bytes before after : List ℕ) (size kind n written : ℕ) (a : Answer) (left : Lent) → ToldBytes bytes our_slices kind n a left
    → written ≡ picks_written a n
    → PutFirst (lines_of kind a (take written left.picks)) before after size → JobReplied bytes before after size
replied bytes before after size kind n written a left told counted put = record {
  answer = a;
  left = left;
  solved = told.solved;
  put = rw (counted, told.kind_told, told.labels_told) at put;
}

-- no second reply is left
one_job_reply : (bytes before after after' : List ℕ) (size size' : ℕ) → JobReplied bytes before after size → JobReplied bytes before after' size'
    → (after ≡ after') × (size ≡ size')
one_job_reply bytes before after after' size size' x y =
    let one = no_second_choice_bytes bytes our_slices x.left y.left x.answer y.answer x.solved y.solved in
    let lines = lines_of (kind_read (read_job bytes)) x.answer (take (picks_written x.answer (labels_read (read_job bytes))) x.left.picks) in
    let other : PutFirst lines before after' size' = rw (one.answer, one.left) y.put in
    text_unique x.put other

-- ---- to any input

-- lines that were put stand within the slice
put_within : {lines before after : List ℕ} {size : ℕ} → PutFirst lines before after size → size ≤ length after
unfolding Holds
put_within {lines} {before} put = omega (arith, put.ends, ap length put.holds, length-append lines (drop (length lines) before))

-- so do those of any reply
pub replied_within : {input before after : List ℕ} {size : ℕ} → Replied input before after size → size ≤ length after
replied_within (longer long put) = put_within put
replied_within (a_job short replied) = put_within replied.put

-- no second reply is left
pub one_reply : (input before after after' : List ℕ) (size size' : ℕ) → Replied input before after size → Replied input before after' size'
    → (after ≡ after') × (size ≡ size')
one_reply input before after after' size size' (longer long put) (longer long' put') = text_unique put put'
one_reply input before after after' size size' (longer long put) (a_job short replied) = absurd (omega arith)
one_reply input before after after' size size' (a_job short replied) (longer long put) = absurd (omega arith)
one_reply input before after after' size size' (a_job short replied) (a_job short' replied') =
    one_job_reply input before after after' size size' replied replied'

-- one byte more than a job may have is enough to read: the reply to that much of the input is the reply to all of it
pub enough_read : (input before after : List ℕ) (size : ℕ) → Replied (take (most_input + 1) input) before after size → Replied input before after size
enough_read input before after size (longer long put) = longer (omega (arith, length-take (most_input + 1) input)) put
enough_read input before after size (a_job short replied) =
    let within : length input ≤ most_input = omega (arith, length-take (most_input + 1) input) in
    a_job within (rw (take_all (most_input + 1) input (omega arith)) at replied)

-- longer input prints `refused 4`, and no more
pub longer_prints : {input before after : List ℕ} {size : ℕ} → most_input < length input → Replied input before after size
    → take size after ≡ ascii "refused 4\n"
longer_prints long (longer long' put) = written_out put ∙ refusal 0 []
longer_prints long (a_job short replied) = absurd (omega arith)
