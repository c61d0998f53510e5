-- Versions of the program: one whose lines for every job of a kind that no refusal meets are a refusal's, or say 0, doesn't keep the promise.
-- The slices that the planner is lent aren't given back, so nothing is said of their cells.
-- Assumes nothing.
use mathlib.Core.Path.{◌∙◌, ◌≡◌, ap, refl, sym}
use mathlib.Core.Logic.{◌⊎◌, inl, inr}
use mathlib.Core.Option.{some}
use Prim.Native.Nat.{ℕ, ◌≤◌}
use native.Mathlib.Nat.{le_of_eq}
use native.Mathlib.Omega.{arith}
use mathlib.Core.List.{List, ◌++◌}
use lib.Dec.{lit≤}
use lib.ListN.{length, length-replicate, replicate, take}
use Rattle.meaning.specs.Says.{Answer}
use Rattle.meaning.specs.Says as Says
use Rattle.meaning.specs.declared.Way.TheVariants.{Light}
use Rattle.meaning.specs.Lists.{at, if}
use Rattle.meaning.specs.Job.{Job, Kind, block_ways, fewest_blocks, free, job_of, kind_of, labels, limited, once}
use Rattle.meaning.specs.Job.{packing, sharing, labels_behind, stated_share, subset_sums}
use Rattle.meaning.specs.Lent.{Lent, room_for}
use Rattle.meaning.specs.Refusals.{kind_refusal}
use Rattle.meaning.specs.Bytes.{job_bytes, read_job, readable}
use Rattle.meaning.specs.Solved.{Unrefused}
use Rattle.meaning.specs.Told.{kind_read, labels_read}
use Rattle.meaning.proofs.Laws.{bytes_solved, number_of}
use Rattle.meaning.proofs.Cases.{tried}
use Rattle.meaning.proofs.Held.{tried_back}
use Rattle.meaning.proofs.Versions.{Door, Refusal, ShutOut, SolvedAndShown, not_refused, shut_out}
use Rattle.meaning.proofs.Opens.{opens}
use Rattle.print.specs.Lines.{after_blank, after_blanks, ascii, decimal_of, decimal_within, head_lines, line, line_of, lines_of}
use Rattle.print.proofs.Joined.{written_out}
use Rattle.plan.specs.Picks.{picks_written}
use Rattle.plan.specs.Replies.{Replied, a_job, lines_room, longer, most_input, our_slices}

-- ---- the program as a door

-- a slice and a length: the lines that are written out
abbrev pub written : List ℕ × ℕ → List ℕ
written g = take g.1 g.0

-- the input holds a job and isn't longer than it may be, and the slice has room for the lines
pub record HandsIn (input out : List ℕ) (j : Job) : Type 0 where
  pub short : length input ≤ most_input
  pub reads : read_job input ≡ readable j
  pub roomy : lines_room ≤ length out

-- the lines of a refusal
abbrev pub RefusalLine : List ℕ → Type 0
RefusalLine lines = (r : ℕ) × (lines ≡ line_of (ascii "refused") r)

-- the name of a kind's first number
unfoldable pub first_name : Kind → List ℕ
first_name (packing s) = ascii "value"
first_name subset_sums = ascii "yes"
first_name fewest_blocks = ascii "blocks"
first_name block_ways = ascii "ways"
first_name sharing = ascii "spare"
first_name labels_behind = ascii "weight"
first_name stated_share = ascii "value"

-- lines that start with the kind, and 0 for its first number
abbrev pub Says0 : Kind → List ℕ → Type 0
Says0 k lines = (rest : List ℕ) × (lines ≡ head_lines (number_of k) (first_name k) 0 ++ rest)

-- input is handed in, and a slice for the lines; it comes back with them, where it has the room, and with how long they are
abbrev pub program : Door
program = record {
  Call = List ℕ × List ℕ;
  Given = List ℕ × ℕ;
  Promise = λ c g. lines_room ≤ length c.1 → Replied c.0 c.1 g.0 g.1;
  AsksFor = λ c j. HandsIn c.0 c.1 j;
  way = Light;
  lent = λ c. our_slices;
  Refuses = λ g. RefusalLine (written g);
  Answers0 = λ k g. RefusalLine (written g) ⊎ Says0 k (written g);
}

-- ---- what its lines show

-- the lines of the planner's answer to a job
abbrev Shown : Job → List ℕ × ℕ → Answer → Lent → Type 0
Shown j g a left = written g ≡ lines_of j.kind_number a (take (picks_written a (labels j)) left.picks)

shows : (input before after : List ℕ) (size : ℕ) (j : Job) → HandsIn input before j → Replied input before after size
    → SolvedAndShown Light j our_slices (Shown j (after, size))
unfolding kind_read labels_read
shows input before after size j asks (longer long put) = absurd (omega (arith, asks.short))
shows input before after size j asks (a_job short x) = record {
  answer = x.answer;
  left = x.left;
  solved = bytes_solved input j our_slices x.left x.answer asks.reads x.solved;
  shown = written_out x.put ∙ rw asks.reads;
}

-- every other answer starts with `kind`
refusal_shown : (kind r : ℕ) (a : Answer) (picks : List ℕ) → lines_of kind a picks ≡ line_of (ascii "refused") r → Refusal a
unfolding lines_of head_lines line_of line ascii
refusal_shown kind r (Says.Refused n) picks e = (n, refl)
refusal_shown kind r (Says.Knapsack v w) picks e = let k : ◌≡◌ {A = ℕ} 107 114 = ap (λ (l : List ℕ). at l 0) e in absurd (omega arith)
refusal_shown kind r (Says.Sums y n) picks e = let k : ◌≡◌ {A = ℕ} 107 114 = ap (λ (l : List ℕ). at l 0) e in absurd (omega arith)
refusal_shown kind r (Says.Blocks b) picks e = let k : ◌≡◌ {A = ℕ} 107 114 = ap (λ (l : List ℕ). at l 0) e in absurd (omega arith)
refusal_shown kind r (Says.Ways w) picks e = let k : ◌≡◌ {A = ℕ} 107 114 = ap (λ (l : List ℕ). at l 0) e in absurd (omega arith)
refusal_shown kind r (Says.Shares x) picks e = let k : ◌≡◌ {A = ℕ} 107 114 = ap (λ (l : List ℕ). at l 0) e in absurd (omega arith)
refusal_shown kind r (Says.Weight w) picks e = let k : ◌≡◌ {A = ℕ} 107 114 = ap (λ (l : List ℕ). at l 0) e in absurd (omega arith)

-- the first number of no trial's answer is 0: here at its first digit
first_digit : (k : Kind) (picks rest : List ℕ)
    → ¬ (lines_of (tried k).job.kind_number (tried k).answer picks ≡ head_lines (number_of k) (first_name k) 0 ++ rest)
unfolding lines_of head_lines line_of line after_blanks after_blank decimal_of decimal_within ascii if job_of number_of first_name
first_digit (packing once) picks rest e = let d : ◌≡◌ {A = ℕ} 57 48 = ap (λ (l : List ℕ). at l 13) e in omega arith
first_digit (packing limited) picks rest e = let d : ◌≡◌ {A = ℕ} 49 48 = ap (λ (l : List ℕ). at l 13) e in omega arith
first_digit (packing free) picks rest e = let d : ◌≡◌ {A = ℕ} 49 48 = ap (λ (l : List ℕ). at l 13) e in omega arith
first_digit subset_sums picks rest e = let d : ◌≡◌ {A = ℕ} 49 48 = ap (λ (l : List ℕ). at l 11) e in omega arith
first_digit fewest_blocks picks rest e = let d : ◌≡◌ {A = ℕ} 50 48 = ap (λ (l : List ℕ). at l 14) e in omega arith
first_digit block_ways picks rest e = let d : ◌≡◌ {A = ℕ} 52 48 = ap (λ (l : List ℕ). at l 12) e in omega arith
first_digit sharing picks rest e = let d : ◌≡◌ {A = ℕ} 49 48 = ap (λ (l : List ℕ). at l 13) e in omega arith
first_digit labels_behind picks rest e = let d : ◌≡◌ {A = ℕ} 56 48 = ap (λ (l : List ℕ). at l 14) e in omega arith
first_digit stated_share picks rest e = let d : ◌≡◌ {A = ℕ} 56 48 = ap (λ (l : List ℕ). at l 13) e in omega arith

not_0_shown : (k : Kind) (g : List ℕ × ℕ) (left : Lent) → Shown (tried k).job g (tried k).answer left
    → ¬ (RefusalLine (written g) ⊎ Says0 k (written g))
not_0_shown k g left shown (inl (r, e)) = not_refused k (refusal_shown (tried k).job.kind_number r (tried k).answer _ (sym shown ∙ e))
not_0_shown k g left shown (inr (rest, e)) = first_digit k _ rest (sym shown ∙ e)

-- ---- the trial of each kind is input that it may have, and its slices have the room

pub record Ready (k : Kind) : Type 0 where
  pub short : length (job_bytes (tried k).job) ≤ most_input
  pub unrefused : Unrefused k (tried k).job our_slices

ready_by : (k : Kind) → length (job_bytes (tried k).job) ≤ most_input → kind_of (tried k).job.kind_number ≡ some k
    → kind_refusal (room_for k (tried k).job) k (tried k).job our_slices ≡ 0 → Ready k
ready_by k short of_kind no_refusal = record { short = short; unrefused = record { of_kind = of_kind; no_refusal = no_refusal } }

pub ready : (k : Kind) → Ready k
unfolding opens most_input our_slices
ready (packing once) = ready_by (packing once) (lit≤ tt) refl refl
ready (packing limited) = ready_by (packing limited) (lit≤ tt) refl refl
ready (packing free) = ready_by (packing free) (lit≤ tt) refl refl
ready subset_sums = ready_by subset_sums (lit≤ tt) refl refl
ready fewest_blocks = ready_by fewest_blocks (lit≤ tt) refl refl
ready block_ways = ready_by block_ways (lit≤ tt) refl refl
ready sharing = ready_by sharing (lit≤ tt) refl refl
ready labels_behind = ready_by labels_behind (lit≤ tt) refl refl
ready stated_share = ready_by stated_share (lit≤ tt) refl refl

-- a slice with just the room
blank : List ℕ
blank = replicate lines_room 0

hands_in : (k : Kind) → HandsIn (job_bytes (tried k).job) blank (tried k).job
unfolding blank
hands_in k = record { short = (ready k).short; reads = tried_back k; roomy = le_of_eq (sym (length-replicate {A = ℕ} lines_room 0)) }

-- no such version, by the law for every door
program_versions : (k : Kind) → ShutOut program k
program_versions k =
    shut_out program Shown (λ c g j asks kept. shows c.0 c.1 g.0 g.1 j asks (kept asks.roomy))
    (λ j g a left shown (r, e). refusal_shown j.kind_number r a _ (sym shown ∙ e)) not_0_shown
    k (job_bytes (tried k).job, blank) (hands_in k) (ready k).unrefused
