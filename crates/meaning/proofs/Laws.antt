-- Laws of the planner's promise, by either way, and of `Writes` that the operations' proofs cite in place of their text.
-- Assumes nothing.
use mathlib.Core.Path.{◌∙◌, ◌≡◌, ap, refl, subst, sym}
use mathlib.Core.Logic.{◌⊎◌, inl, inr}
use mathlib.Core.Option.{none, some}
use Prim.Native.Nat.{◌<◌, suc, zero, ℕ, ◌≤◌}
use native.Mathlib.Nat.{le_of_suc-le-suc, not-suc-le-zero}
use native.Mathlib.Omega.{arith}
use mathlib.Core.List.{List, [], ◌∷◌}
use lib.ListN.{get_or-append, drop, get_elem?, length, take}
use lib.Seq.{take_at}
use Rattle.meaning.specs.Says.{Answer}
use Rattle.meaning.specs.Says as Says
use Rattle.meaning.specs.declared.Way.{Way}
use Rattle.meaning.specs.Reports.{Written}
use Rattle.meaning.specs.Lists.{at}
use Rattle.meaning.specs.Slices.{Holds}
use Rattle.meaning.specs.Job.{Job, Kind, Knapsack, kind_of, all_kinds}
use Rattle.meaning.specs.Lent.{Lent, Room, room_by}
use Rattle.meaning.specs.Refusals.{kind_refusal}
use Rattle.meaning.specs.Bytes.{read_job, readable, unreadable}
use Rattle.meaning.specs.Answers.{answer_numbers}
use Rattle.meaning.specs.Solved.{UnrefusedBy, Answered, Gives, Outcome, SolvedAs, SolvedBy}
use Rattle.meaning.specs.Solved.{SolvedBytesBy, SolvedRead, TableBy, TurnedDown, SolvedLists}
use Rattle.meaning.specs.Certificates.{certified_knapsack}
use Rattle.meaning.specs.Writer.{Writes, WritesAs, WritesFor, bytes_needed, certificate, writer_refusal}
use Rattle.meaning.proofs.EachKind.{gives_unique, not_said, refusals, table_unique}
use Rattle.meaning.proofs.Unique.{no_influence, answer_numbers_unique}
-- a kind's number, passed on
unfoldable pub use Rattle.meaning.proofs.EachKind.{number_of}
pub use Rattle.meaning.proofs.EachKind.{kind_number}

-- ---- a lent slice

-- its first places hold what is new in it
pub holds_first : (new before after : List ℕ) (n : ℕ) → Holds new before after → length new ≡ n → take n after ≡ new
unfolding Holds
holds_first new before after n h e = ap (take n) h ∙ take_at new (drop (length new) before) n e

-- each of them does
pub held_at : (new before after : List ℕ) (m : ℕ) → Holds new before after → m < length new → at after m ≡ at new m
unfolding Holds
held_at new before after m h l = ap (λ (s : List ℕ). at s m) h ∙ get_or-append new (drop (length new) before) 0 m l

-- ---- the kind

past_last : {A : Type 0} (xs : List A) (k : ℕ) → length xs ≤ k → get_elem? xs k ≡ none
past_last [] k h = refl
past_last (x ∷ xs) zero h = absurd (not-suc-le-zero h)
past_last (x ∷ xs) (suc k) h = past_last xs k (le_of_suc-le-suc h)

-- 0, and every number above the last kind's, is no kind
pub no_kind : (k : ℕ) → (k ≡ 0) ⊎ (length all_kinds < k) → kind_of k ≡ none
unfolding kind_of
no_kind zero h = refl
no_kind (suc k) (inl e) = absurd (omega arith)
no_kind (suc k) (inr h) = past_last all_kinds k (le_of_suc-le-suc h)

-- a refusal leaves the slices as they were
pub turned_down : (r : ℕ) (before : Lent) → TurnedDown r before (answer_numbers (Says.Refused r)) before
turned_down r before = record { numbers = refl; nothing_written = refl }

-- a job of no kind is refused with 2
pub solved_no_kind : {way : Way} (j : Job) (before : Lent) → kind_of j.kind_number ≡ none → SolvedBy way j before (Says.Refused 2) before
unfolding SolvedLists SolvedAs
solved_no_kind j before e = record { kept = rw e (turned_down 2 before) }

-- `SolvedBy` for a job of kind k, by its refusal number
pub solved_kind : {way : Way} (j : Job) (before : Lent) (k : Kind) (r : ℕ) (a : Answer) (after : Lent)
    → kind_of j.kind_number ≡ some k → kind_refusal (room_by way k j) k j before ≡ r
    → Outcome r (room_by way k j) (TableBy way k j) k j before (answer_numbers a) after → SolvedBy way j before a after
unfolding SolvedLists SolvedAs
solved_kind j before k r a after e f h = record { kept = rw (e, f) h }

-- and back
pub kind_solved : {way : Way} (j : Job) (before : Lent) (k : Kind) (r : ℕ) (a : Answer) (after : Lent)
    → kind_of j.kind_number ≡ some k → kind_refusal (room_by way k j) k j before ≡ r
    → SolvedBy way j before a after → Outcome r (room_by way k j) (TableBy way k j) k j before (answer_numbers a) after
unfolding SolvedLists SolvedAs
kind_solved j before k r a after e f h = rw (e, f) at h.kept

-- a job that has a refusal number is answered by it
pub answers_its_number : (room : Room) (table : Lent → Type 0) (k : Kind) (j : Job) (before after : Lent) (a : Answer) (r : ℕ)
    → Outcome r room table k j before (answer_numbers a) after → ¬ (r ≡ 0) → a ≡ Says.Refused r
unfolding Outcome
answers_its_number room table k j before after a zero x Some-number = absurd (Some-number refl)
answers_its_number room table k j before after a (suc r) x Some-number = answer_numbers_unique x.numbers

-- ---- job bytes

-- job bytes that can be read are solved as the job that they hold
pub solved_bytes : {way : Way} (bytes : List ℕ) (j : Job) (before after : Lent) (a : Answer) → read_job bytes ≡ readable j → SolvedBy way j before a after
    → SolvedBytesBy way bytes before a after
unfolding SolvedRead
solved_bytes bytes j before after a e h = record { kept = rw e h.kept }

-- and back
pub bytes_solved : {way : Way} (bytes : List ℕ) (j : Job) (before after : Lent) (a : Answer) → read_job bytes ≡ readable j → SolvedBytesBy way bytes before a after
    → SolvedBy way j before a after
unfolding SolvedRead
bytes_solved bytes j before after a e h = record { kept = rw e at h.kept }

-- those that can't are refused with 1
pub solved_unreadable : {way : Way} (bytes : List ℕ) (place : ℕ) (before : Lent) → read_job bytes ≡ unreadable place
    → SolvedBytesBy way bytes before (Says.Refused 1) before
unfolding SolvedRead
solved_unreadable bytes place before e = record { kept = rw e (turned_down 1 before) }

-- ---- a call on a job that is not refused

-- it is answered
pub unrefused_answered : {way : Way} (k : Kind) (j : Job) (before after : Lent) (a : Answer) → UnrefusedBy way k j before → SolvedBy way j before a after
    → Answered (room_by way k j) (TableBy way k j) k j before (answer_numbers a) after
unfolding Outcome
unrefused_answered k j before after a ok h = kind_solved j before k 0 a after ok.of_kind ok.no_refusal h

-- and what answers it solves it
pub answered_solved : {way : Way} (k : Kind) (j : Job) (before after : Lent) (a : Answer) → UnrefusedBy way k j before
    → Answered (room_by way k j) (TableBy way k j) k j before (answer_numbers a) after → SolvedBy way j before a after
unfolding Outcome
answered_solved k j before after a ok h = solved_kind j before k 0 a after ok.of_kind ok.no_refusal h

-- a job that got an answer, and no refusal, was answered
pub some_answer : {way : Way} (k : Kind) (j : Job) (before after : Lent) (a : Answer) → kind_of j.kind_number ≡ some k
    → refusals (answer_numbers a).case ≡ 0 → SolvedBy way j before a after
    → Answered (room_by way k j) (TableBy way k j) k j before (answer_numbers a) after
unfolding Outcome
some_answer {way} k j before after a of_kind no_refusal h =
    go (kind_refusal (room_by way k j) k j before) (kind_solved j before k (kind_refusal (room_by way k j) k j before) a after of_kind refl h)
  where
    go : (r : ℕ) → Outcome r (room_by way k j) (TableBy way k j) k j before (answer_numbers a) after
        → Answered (room_by way k j) (TableBy way k j) k j before (answer_numbers a) after
    go zero x = x
    go (suc r) x = absurd (not_said (suc r) a no_refusal (sym x.numbers))

-- whoever solves a job that the meanings answer by b and p answers b and writes p
pub solved_says : {way : Way} (k : Kind) (j : Job) (before after : Lent) (a b : Answer) (p : List ℕ)
    → UnrefusedBy way k j before → Gives k j (answer_numbers b) p → SolvedBy way j before a after
    → (a ≡ b) × Holds p before.picks after.picks
solved_says k j before after a b p ok g h =
    let answered = unrefused_answered k j before after a ok h in
    let (same, said) = gives_unique k j (answer_numbers a) (answer_numbers b) answered.content.picks p answered.gives g in
    (answer_numbers_unique said, rw same at answered.picks_hold)

-- the first places hold this content, and past it stands what stood there
pub record ContentIn (content before after : Lent) : Type 0 where
  pub cells : Holds content.cells before.cells after.cells
  pub words : Holds content.words before.words after.words
  pub picks : Holds content.picks before.picks after.picks

-- two calls on one job, the slices as they may: the same answer, and the same written
pub record Uninfluenced (a a' : Answer) (before after before' after' : Lent) : Type 0 where
  pub answer : a ≡ a'
  pub content : Lent
  pub in_first : ContentIn content before after
  pub in_second : ContentIn content before' after'

-- what stood in the table before has no influence
pub uninfluenced : {way : Way} (k : Kind) (j : Job) (before after before' after' : Lent) (a a' : Answer) → UnrefusedBy way k j before → UnrefusedBy way k j before'
    → SolvedBy way j before a after → SolvedBy way j before' a' after' → Uninfluenced a a' before after before' after'
uninfluenced {way} k j before after before' after' a a' ok ok' h h' =
    let x = unrefused_answered k j before after a ok h in
    let y = unrefused_answered k j before' after' a' ok' h' in
    let (said, same) = no_influence k j before before' after after' (answer_numbers a) (answer_numbers a') (table_unique way k j) x y in
    record {
      answer = answer_numbers_unique said;
      content = x.content;
      in_first = record { cells = x.cells_hold; words = x.words_hold; picks = x.picks_hold };
      in_second =
          subst (λ (l : Lent). ContentIn l before' after') (sym same)
          (record { cells = y.cells_hold; words = y.words_hold; picks = y.picks_hold });
    }

-- nor where the job comes as bytes
pub uninfluenced_bytes : {way : Way} (bytes : List ℕ) (k : Kind) (j : Job) (before after before' after' : Lent) (a a' : Answer) → read_job bytes ≡ readable j
    → UnrefusedBy way k j before → UnrefusedBy way k j before'
    → SolvedBytesBy way bytes before a after → SolvedBytesBy way bytes before' a' after' → Uninfluenced a a' before after before' after'
uninfluenced_bytes bytes k j before after before' after' a a' reads ok ok' h h' =
    uninfluenced k j before after before' after' a a' ok ok' (bytes_solved bytes j before after a reads h)
    (bytes_solved bytes j before' after' a' reads h')

-- ---- the writer

-- its promise for a job of a knapsack that has certificates
module _ (k : Knapsack) (j : Job) (of_knapsack : certified_knapsack j.kind_number ≡ some k) (picks cells before : List ℕ) (a : Written)
    (after : List ℕ) where
  abbrev ByKnapsack : Type 0
  ByKnapsack = WritesAs (writer_refusal k j picks cells before) (bytes_needed k j) (certificate k j picks cells) before a after

  pub knapsack_writes : ByKnapsack → Writes j picks cells before a after
  unfolding Writes WritesFor
  knapsack_writes h = rw of_knapsack h

  -- and back
  pub writes_knapsack : Writes j picks cells before a after → ByKnapsack
  unfolding Writes WritesFor
  writes_knapsack h = rw of_knapsack at h
