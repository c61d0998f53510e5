-- No second choice is left: two answers that meet a promise for one input are the same, and so is what they leave in the lent slices.
-- Assumes nothing.
use mathlib.Core.Path.{◌∙◌, ◌≡◌, ap, refl, sym}
use mathlib.Core.Option.{Option, none, some}
use Prim.Native.Nat.{suc, zero, ℕ}
use mathlib.Core.Bool.{false, true}
use mathlib.Core.List.{List, ◌++◌}
use lib.Dec.{eqb}
use lib.ListN.{drop, length}
use Rattle.meaning.specs.Says.{Answer}
use Rattle.meaning.specs.Says as Says
use Rattle.meaning.specs.declared.Way.{Way}
use Rattle.meaning.specs.Judges.{Verdict}
use Rattle.meaning.specs.Judges as Judges
use Rattle.meaning.specs.Reports.{Written}
use Rattle.meaning.specs.Reports as Reports
use Rattle.meaning.specs.Lists.{if}
use Rattle.meaning.specs.Slices.{Holds}
use Rattle.meaning.specs.Job.{Job, Kind, Knapsack, kind_of}
use Rattle.meaning.specs.Lent.{Lent, Room, room_by}
use Rattle.meaning.specs.Refusals.{kind_refusal}
use Rattle.meaning.specs.Bytes.{JobRead, read_job, readable, unreadable}
use Rattle.meaning.specs.Answers.{Which, is_refusal, is_knapsack, is_sums, is_blocks, is_ways, is_shares, is_weight}
use Rattle.meaning.specs.Answers.{AnswerNumbers, answer_numbers, VerdictNumbers, verdict_numbers, WrittenNumbers, written_numbers}
use Rattle.meaning.specs.Solved.{Answered, Outcome, SolvedAs, SolvedBy, SolvedBytesBy, SolvedLists, SolvedRead, TableBy, TurnedDown}
use Rattle.meaning.specs.Told.{ToldBy}
use Rattle.meaning.specs.Certificates.{Checked, certified_knapsack}
use Rattle.meaning.specs.Writer.{Writes, WritesBytes, WritesFor, WritesRead, WritesAs}
use Rattle.meaning.specs.Host.{first_number, second_number, SolvedHostBy, WritesHost}
use Rattle.meaning.proofs.EachKind.{OneTable, Sized, gives_unique, table_unique}

-- ---- the numbers and the case settle the answer itself

-- the answer of a case that says these numbers
unsay : Which → AnswerNumbers → Answer
unsay is_refusal s = Says.Refused s.refusal
unsay is_knapsack s = Says.Knapsack s.value s.weight
unsay is_sums s = Says.Sums (eqb s.yes 1) s.totals
unsay is_blocks s = Says.Blocks s.blocks
unsay is_ways s = Says.Ways s.ways
unsay is_shares s = Says.Shares s.spare
unsay is_weight s = Says.Weight s.exact

unsaid : (a : Answer) → unsay (answer_numbers a).case (answer_numbers a) ≡ a
unfolding unsay answer_numbers if
unsaid (Says.Refused r) = refl
unsaid (Says.Knapsack v w) = refl
unsaid (Says.Sums true n) = refl
unsaid (Says.Sums false n) = refl
unsaid (Says.Blocks b) = refl
unsaid (Says.Ways w) = refl
unsaid (Says.Shares x) = refl
unsaid (Says.Weight w) = refl

-- an answer is settled by what it says
pub answer_numbers_unique : {a b : Answer} → answer_numbers a ≡ answer_numbers b → a ≡ b
answer_numbers_unique {a} {b} e = sym (unsaid a) ∙ ap (λ (s : AnswerNumbers). unsay s.case s) e ∙ unsaid b

-- so is a verdict
pub verdict_numbers_unique : (a b : Verdict) → verdict_numbers a ≡ verdict_numbers b → a ≡ b
unfolding verdict_numbers
verdict_numbers_unique (Judges.Accepted v) (Judges.Accepted w) e = ap (λ (s : VerdictNumbers). Judges.Accepted s.value) e
verdict_numbers_unique (Judges.Accepted v) (Judges.Refused r p) e = let c : true ≡ false = ap (λ (s : VerdictNumbers). s.accepts) e in cc
verdict_numbers_unique (Judges.Refused r p) (Judges.Accepted v) e = let c : false ≡ true = ap (λ (s : VerdictNumbers). s.accepts) e in cc
verdict_numbers_unique (Judges.Refused r p) (Judges.Refused r' p') e = ap (λ (s : VerdictNumbers). Judges.Refused s.refusal s.place) e

-- and a writer's answer
pub written_numbers_unique : (a b : Written) → written_numbers a ≡ written_numbers b → a ≡ b
unfolding written_numbers
written_numbers_unique (Reports.Bytes n) (Reports.Bytes m) e = ap (λ (s : WrittenNumbers). Reports.Bytes s.bytes) e
written_numbers_unique (Reports.Bytes n) (Reports.Refused r) e = let c : true ≡ false = ap (λ (s : WrittenNumbers). s.done) e in cc
written_numbers_unique (Reports.Refused r) (Reports.Bytes n) e = let c : false ≡ true = ap (λ (s : WrittenNumbers). s.done) e in cc
written_numbers_unique (Reports.Refused r) (Reports.Refused r') e = ap (λ (s : WrittenNumbers). Reports.Refused s.refusal) e

-- ---- the planner

-- one answer, and one content of the lent slices
pub record One (a a' : Answer) (t t' : Lent) : Type 0 where
  pub answer : a ≡ a'
  pub left : t ≡ t'

as_one : {a a' : Answer} {t t' : Lent} → (answer_numbers a ≡ answer_numbers a') × (t ≡ t') → One a a' t t'
as_one e = record { answer = answer_numbers_unique e.0; left = e.1 }

sized : {room : Room} {table : Lent → Type 0} {k : Kind} {j : Job} {before t : Lent} {s : AnswerNumbers} → (a : Answered room table k j before s t)
    → Sized room a.content
sized a = record { cells = a.cells_needed; words = a.words_needed }

-- what stood in the lent slices has no influence: two calls on an accepted job, whatever the slices held before, say the same and write the same
pub no_influence : {room : Room} {table : Lent → Type 0} (k : Kind) (j : Job) (before before' t t' : Lent) (s s' : AnswerNumbers)
    → OneTable room table
    → (a : Answered room table k j before s t) (b : Answered room table k j before' s' t') → (s ≡ s') × (a.content ≡ b.content)
unfolding OneTable
no_influence k j before before' t t' s s' one_table a b =
    let (same, said) = gives_unique k j s s' a.content.picks b.content.picks a.gives b.gives in
    let (cells, words) = one_table a.content b.content a.table_right b.table_right (sized a) (sized b) in
    (said, λ i. record { cells = cells i; words = words i; picks = same i })

pub holds_unique : (new new' before after after' : List ℕ) → new ≡ new' → Holds new before after → Holds new' before after' → after ≡ after'
unfolding Holds
holds_unique new new' before after after' e h h' = h ∙ ap (λ (l : List ℕ). l ++ drop (length l) before) e ∙ sym h'

answered_unique : {room : Room} {table : Lent → Type 0} (k : Kind) (j : Job) (before t t' : Lent) (s s' : AnswerNumbers) → OneTable room table
    → Answered room table k j before s t → Answered room table k j before s' t' → (s ≡ s') × (t ≡ t')
answered_unique k j before t t' s s' one_table a b =
    let (said, content) = no_influence k j before before t t' s s' one_table a b in
    let cells : t.cells ≡ t'.cells = holds_unique _ _ _ _ _ (ap (λ (l : Lent). l.cells) content) a.cells_hold b.cells_hold in
    let words : t.words ≡ t'.words = holds_unique _ _ _ _ _ (ap (λ (l : Lent). l.words) content) a.words_hold b.words_hold in
    let picks : t.picks ≡ t'.picks = holds_unique _ _ _ _ _ (ap (λ (l : Lent). l.picks) content) a.picks_hold b.picks_hold in
    (said, λ i. record { cells = cells i; words = words i; picks = picks i })

turned_down_unique : {r : ℕ} {before t t' : Lent} {s s' : AnswerNumbers} → TurnedDown r before s t → TurnedDown r before s' t' → (s ≡ s') × (t ≡ t')
turned_down_unique a b = (a.numbers ∙ sym b.numbers, a.nothing_written ∙ sym b.nothing_written)

outcome_unique : (r : ℕ) (room : Room) (table : Lent → Type 0) (k : Kind) (j : Job) (before t t' : Lent) (s s' : AnswerNumbers) → OneTable room table
    → Outcome r room table k j before s t → Outcome r room table k j before s' t' → (s ≡ s') × (t ≡ t')
unfolding Outcome
outcome_unique zero room table k j before t t' s s' one_table a b = answered_unique k j before t t' s s' one_table a b
outcome_unique (suc r) room table k j before t t' s s' one_table a b = turned_down_unique a b

-- wherever the tables leave one content of the needed places
module _ (room : Kind → Job → Room) (table : Kind → Job → Lent → Type 0) (one_table : (k : Kind) (j : Job) → OneTable (room k j) (table k j)) where
  solved_as_unique : (k : Option Kind) (j : Job) (before t t' : Lent) (s s' : AnswerNumbers)
      → SolvedAs room table k j before s t → SolvedAs room table k j before s' t' → (s ≡ s') × (t ≡ t')
  unfolding SolvedAs
  solved_as_unique none j before t t' s s' a b = turned_down_unique a b
  solved_as_unique (some k) j before t t' s s' a b =
      outcome_unique (kind_refusal (room k j) k j before) (room k j) (table k j) k j before t t' s s' (one_table k j) a b

  pub lists_unique : (j : Job) (before t t' : Lent) (a a' : Answer)
      → SolvedLists room table j before a t → SolvedLists room table j before a' t' → One a a' t t'
  unfolding SolvedLists
  lists_unique j before t t' a a' x y = as_one (solved_as_unique (kind_of j.kind_number) j before t t' (answer_numbers a) (answer_numbers a') x y)

  pub read_unique : (b : JobRead) (before t t' : Lent) (a a' : Answer)
      → SolvedRead room table b before a t → SolvedRead room table b before a' t' → One a a' t t'
  unfolding SolvedRead
  read_unique (unreadable place) before t t' a a' x y = as_one (turned_down_unique x y)
  read_unique (readable j) before t t' a a' x y = lists_unique j before t t' a a' x y

-- and they do by either way
pub no_second_choice : {way : Way} (j : Job) (before t t' : Lent) (a a' : Answer) → SolvedBy way j before a t → SolvedBy way j before a' t'
    → One a a' t t'
no_second_choice {way} j before t t' a a' x y =
    lists_unique (room_by way) (TableBy way) (table_unique way) j before t t' a a' x.kept y.kept

pub no_second_choice_bytes : {way : Way} (bytes : List ℕ) (before t t' : Lent) (a a' : Answer) → SolvedBytesBy way bytes before a t
    → SolvedBytesBy way bytes before a' t' → One a a' t t'
no_second_choice_bytes {way} bytes before t t' a a' x y =
    read_unique (room_by way) (TableBy way) (table_unique way) (read_job bytes) before t t' a a' x.kept y.kept

-- what a program is told leaves none either
pub record OneTold (kind kind' labels labels' : ℕ) (a a' : Answer) (t t' : Lent) : Type 0 where
  pub kind_same : kind ≡ kind'
  pub labels_same : labels ≡ labels'
  pub one : One a a' t t'

pub no_second_choice_told : {way : Way} (bytes : List ℕ) (before t t' : Lent) (kind kind' labels labels' : ℕ) (a a' : Answer)
    → ToldBy way bytes before kind labels a t → ToldBy way bytes before kind' labels' a' t' → OneTold kind kind' labels labels' a a' t t'
no_second_choice_told bytes before t t' kind kind' labels labels' a a' x y = record {
  kind_same = x.kind_told ∙ sym y.kind_told;
  labels_same = x.labels_told ∙ sym y.labels_told;
  one = no_second_choice_bytes bytes before t t' a a' x.solved y.solved;
}

-- ---- the checker

pub no_second_verdict : (jobB cert_b : List ℕ) (v w : Verdict) → Checked jobB cert_b v → Checked jobB cert_b w → v ≡ w
unfolding Checked
no_second_verdict jobB cert_b v w a b = verdict_numbers_unique v w (a ∙ sym b)

-- ---- the writer

-- one answer, and one content of the byte slice
pub record OneWriting (a a' : Written) (after after' : List ℕ) : Type 0 where
  pub answer : a ≡ a'
  pub left : after ≡ after'

writes_as_unique : {r n : ℕ} {cert_b before after after' : List ℕ} {a a' : Written}
    → WritesAs r n cert_b before a after → WritesAs r n cert_b before a' after' → OneWriting a a' after after'
writes_as_unique {a = a} {a' = a'} x y =
    record { answer = written_numbers_unique a a' (x.numbers ∙ sym y.numbers); left = holds_unique _ _ _ _ _ refl x.leaves y.leaves }

writes_for_unique : (o : Option Knapsack) (j : Job) (picks cells before after after' : List ℕ) (a a' : Written)
    → WritesFor o j picks cells before a after → WritesFor o j picks cells before a' after' → OneWriting a a' after after'
unfolding WritesFor
writes_for_unique none j picks cells before after after' a a' x y = writes_as_unique x y
writes_for_unique (some k) j picks cells before after after' a a' x y = writes_as_unique x y

pub no_second_writing : (j : Job) (picks cells before after after' : List ℕ) (a a' : Written)
    → Writes j picks cells before a after → Writes j picks cells before a' after' → OneWriting a a' after after'
unfolding Writes
no_second_writing j picks cells before after after' a a' x y =
    writes_for_unique (certified_knapsack j.kind_number) j picks cells before after after' a a' x y

writes_read_unique : (b : JobRead) (picks cells before after after' : List ℕ) (a a' : Written)
    → WritesRead b picks cells before a after → WritesRead b picks cells before a' after' → OneWriting a a' after after'
unfolding WritesRead
writes_read_unique (unreadable place) picks cells before after after' a a' x y = writes_as_unique x y
writes_read_unique (readable j) picks cells before after after' a a' x y = no_second_writing j picks cells before after after' a a' x y

pub no_second_writing_bytes : (bytes picks cells before after after' : List ℕ) (a a' : Written)
    → WritesBytes bytes picks cells before a after → WritesBytes bytes picks cells before a' after' → OneWriting a a' after after'
unfolding WritesBytes
no_second_writing_bytes bytes picks cells before after after' a a' x y = writes_read_unique (read_job bytes) picks cells before after after' a a' x y

-- ---- the C entries

-- one refusal number, the same two numbers, and one content of the lent slices
pub record OneCall (r r' first first' second second' : ℕ) (t t' : Lent) : Type 0 where
  pub refusal : r ≡ r'
  pub first_same : first ≡ first'
  pub second_same : second ≡ second'
  pub left : t ≡ t'

pub one_host_answer : {way : Way} (jobB : List ℕ) (before t t' : Lent) (r r' first first' second second' : ℕ)
    → SolvedHostBy way jobB before r first second t → SolvedHostBy way jobB before r' first' second' t'
    → OneCall r r' first first' second second' t t'
one_host_answer jobB before t t' r r' first first' second second' x y =
    let one = no_second_choice_bytes jobB before t t' x.answer y.answer x.solved y.solved in
    let said : answer_numbers x.answer ≡ answer_numbers y.answer = ap answer_numbers one.answer in
    record {
      refusal = x.refusal ∙ ap (λ (s : AnswerNumbers). s.refusal) said ∙ sym y.refusal;
      first_same = x.first_is ∙ ap first_number said ∙ sym y.first_is;
      second_same = x.second_is ∙ ap second_number said ∙ sym y.second_is;
      left = one.left;
    }

-- one refusal number, one number of bytes, and one content of the byte slice
pub record OneWritingCall (r r' bytes bytes' : ℕ) (after after' : List ℕ) : Type 0 where
  pub refusal : r ≡ r'
  pub bytes_same : bytes ≡ bytes'
  pub left : after ≡ after'

pub one_host_writing : (jobB picks cells before after after' : List ℕ) (r r' bytes bytes' : ℕ)
    → WritesHost jobB picks cells before r bytes after → WritesHost jobB picks cells before r' bytes' after'
    → OneWritingCall r r' bytes bytes' after after'
one_host_writing jobB picks cells before after after' r r' bytes bytes' x y =
    let one = no_second_writing_bytes jobB picks cells before after after' x.answer y.answer x.writes y.writes in
    let wrote : written_numbers x.answer ≡ written_numbers y.answer = ap written_numbers one.answer in
    record {
      refusal = x.refusal ∙ ap (λ (s : WrittenNumbers). s.refusal) wrote ∙ sym y.refusal;
      bytes_same = x.bytes_are ∙ ap (λ (s : WrittenNumbers). s.bytes) wrote ∙ sym y.bytes_are;
      left = one.left;
    }
