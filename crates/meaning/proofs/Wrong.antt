-- Wrong answers that the promises rule out: on all bytes that can't be read, by the writer, by the checker on one job, by kinds 8 and 9, and from C. (Versions has
-- those that document 01 names.)
-- Assumes nothing.
use mathlib.Core.Path.{◌∙◌, ◌≡◌, ap, refl, subst, sym}
use mathlib.Core.Option.{some}
use Prim.Native.Nat.{ℕ}
use native.Mathlib.Omega.{arith}
use mathlib.Core.List.{List, [], ◌∷◌}
use lib.Dec.{lit≤}
use lib.ListN.{drop, length, replicate, take}
use lib.Seq.{drop_at}
use Rattle.meaning.specs.Says.{Answer}
use Rattle.meaning.specs.Says as Says
use Rattle.meaning.specs.declared.Way.{Way}
use Rattle.meaning.specs.Reports.{Written}
use Rattle.meaning.specs.Reports.{Bytes}
use Rattle.meaning.specs.Reports as Reports
use Rattle.meaning.specs.Judges.{Verdict}
use Rattle.meaning.specs.Judges.{Accepted, Refused}
use Rattle.meaning.specs.Lists.{at}
use Rattle.meaning.specs.Slices.{Holds}
use Rattle.meaning.specs.Cells.{LeastShown}
use Rattle.meaning.specs.Job.{Job, Knapsack, stated_share}
use Rattle.meaning.specs.Lent.{Lent}
use Rattle.meaning.specs.Bytes.{read_job, readable, unreadable}
use Rattle.meaning.specs.Sums.{Weighs}
use Rattle.meaning.specs.Light.{LightTable}
use Rattle.meaning.specs.Behind.{Behind, FirstRow, ReachedBy}
use Rattle.meaning.specs.Stated.{CutWeight, StatedTable}
use Rattle.meaning.specs.Answers.{AnswerNumbers, verdict_numbers, answer_numbers, written_numbers}
use Rattle.meaning.specs.Solved.{SolvedBy, SolvedBytesBy, SolvedRead, TurnedDown, UnrefusedBy}
use Rattle.meaning.specs.Certificates.{Checked, certified_knapsack, verdict_of}
use Rattle.meaning.specs.Writer.{Writes, WritesAs, WritesBytes, WritesFor, WritesRead, bytes_needed}
use Rattle.meaning.specs.Writer.{certificate, new_bytes, slices_fit, writer_refusal, written_as}
use Rattle.meaning.specs.Host.{WritesHost, refusal_number, value_or_place}
use Rattle.meaning.specs.Demands.{ValidJob}
use Rattle.meaning.specs.Trials.{cert_j, job_j}
use Rattle.meaning.proofs.OneOfEach.{behind_unique, label_words_unique, least_shown_unique}
use Rattle.meaning.proofs.Unique.{answer_numbers_unique, written_numbers_unique}
use Rattle.meaning.proofs.Laws.{holds_first, writes_knapsack}
use Rattle.meaning.proofs.Certified.{meets_demand_3, verdict_is}
use Rattle.meaning.proofs.Entries.{zero_is_accepted}
use Rattle.meaning.proofs.Versions.{accepts_all, refuses_all}
use Rattle.meaning.proofs.Small.{behind_out, is_behind}
use Rattle.meaning.proofs.SmallTables.{first_row_out, is_first_row, is_light_table, light_table_out}
use Rattle.meaning.proofs.SmallStated.{is_stated_table, stated_table_out}
use Rattle.meaning.proofs.Opens.{opens}
use Rattle.meaning.proofs.Cases.{no_labels, plain, share_job}
use Rattle.meaning.proofs.Held.{trial_says, tried_goes}

-- ---- on job bytes that can't be read: a planner or a writer that gives another number than 1, and one that writes then

module _ (bytes : List ℕ) (place : ℕ) (unread : read_job bytes ≡ unreadable place) where
  module _ {way : Way} (before after : Lent) where
    refused_1 : (a : Answer) → SolvedBytesBy way bytes before a after → (a ≡ Says.Refused 1) × (after ≡ before)
    unfolding SolvedRead
    refused_1 a h = let t : TurnedDown 1 before (answer_numbers a) after = rw unread at h.kept in (answer_numbers_unique t.numbers, t.nothing_written)

    no_other_number : (n : ℕ) → SolvedBytesBy way bytes before (Says.Refused n) after → n ≡ 1
    no_other_number n h = let e : Says.Refused n ≡ Says.Refused 1 = (refused_1 (Says.Refused n) h).0 in cc

    nothing_written_then : (a : Answer) → SolvedBytesBy way bytes before a after → after ≡ before
    nothing_written_then a h = (refused_1 a h).1

  module _ (picks cells before after : List ℕ) (a : Written) (w : WritesBytes bytes picks cells before a after) where
    writes_unread : WritesAs 1 0 [] before a after
    unfolding WritesBytes WritesRead
    writes_unread = rw unread at w

    unread_is_1 : a ≡ Reports.Refused 1
    unfolding written_as
    unread_is_1 = written_numbers_unique a (Reports.Refused 1) writes_unread.numbers

    unread_writes_nothing : after ≡ before
    unfolding new_bytes Holds
    unread_writes_nothing = writes_unread.leaves

-- ---- the writer on any job that it doesn't refuse: one that counts or writes other bytes, or clears what lies past; and one that writes none

module _ (k : Knapsack) (j : Job) (of_knapsack : certified_knapsack j.kind_number ≡ some k) (picks cells before after : List ℕ) (a : Written)
    (ok : writer_refusal k j picks cells before ≡ 0) (w : Writes j picks cells before a after) where
  writes_all : WritesAs 0 (bytes_needed k j) (certificate k j picks cells) before a after
  writes_all =
      subst (λ (r : ℕ). WritesAs r (bytes_needed k j) (certificate k j picks cells) before a after) ok
      (writes_knapsack k j of_knapsack picks cells before a after w)

  counts_all : a ≡ Bytes (bytes_needed k j)
  unfolding written_as
  counts_all = written_numbers_unique a (Bytes (bytes_needed k j)) writes_all.numbers

  copies_out : take (length (certificate k j picks cells)) after ≡ certificate k j picks cells
  unfolding new_bytes
  copies_out = holds_first (certificate k j picks cells) before after (length (certificate k j picks cells)) writes_all.leaves refl

  keeps_what_lies_past : drop (length (certificate k j picks cells)) after ≡ drop (length (certificate k j picks cells)) before
  unfolding new_bytes Holds
  keeps_what_lies_past = ap (drop (length (certificate k j picks cells))) writes_all.leaves ∙ drop_at (certificate k j picks cells) _ _ refl

-- thirteen places of 9
nines : List ℕ
nines = replicate 13 9

-- the certificate of the job of no labels and budget 0 is 12 bytes
written_12 : (a : Written) (after : List ℕ) → Writes no_labels [] (5 ∷ []) nines a after
    → (a ≡ Bytes 12) × (after ≡ 0 ∷ 0 ∷ 0 ∷ 0 ∷ 1 ∷ 0 ∷ 0 ∷ 0 ∷ 5 ∷ 0 ∷ 0 ∷ 0 ∷ 9 ∷ [])
unfolding nines Writes WritesFor opens writer_refusal slices_fit bytes_needed certificate written_as new_bytes Holds
written_12 a after w = (written_numbers_unique a (Bytes 12) w.numbers, w.leaves)

writes_something : (a : Written) → ¬ Writes no_labels [] (5 ∷ []) nines a nines
unfolding nines
writes_something a w =
    let e : ◌≡◌ {A = ℕ} 9 0 = ap (λ (l : List ℕ). at l 0) (written_12 a nines w).1 in
    omega arith

-- ---- the checker on case J's job: one that names the last cell at fault, one that adds in 32 bits, one that wants exact claims

-- a verdict on the certificate with pick 1 and these cells is the one that computes
only : (cells : List ℕ) (w v : Verdict) → verdict_of job_j (cert_j cells) ≡ w → Checked job_j (cert_j cells) v → v ≡ w
only cells w v computes checked = sym (verdict_is job_j (cert_j cells) v checked) ∙ computes

-- cells 4 and 5 both break rule 14
names_the_first : (v : Verdict) → Checked job_j (cert_j (0 ∷ 9 ∷ 0 ∷ 0 ∷ 0 ∷ 0 ∷ [])) v → v ≡ Refused 14 4
unfolding opens job_j cert_j verdict_of
names_the_first v checked = only (0 ∷ 9 ∷ 0 ∷ 0 ∷ 0 ∷ 0 ∷ []) (Refused 14 4) v refl checked

-- cell 5 is the greatest number of 32 bits, and cell 0 and the value make one more than that
sums_are_whole : (v : Verdict) → Checked job_j (cert_j (4_294_967_293 ∷ 0 ∷ 0 ∷ 4_294_967_293 ∷ 0 ∷ 4_294_967_295 ∷ [])) v → v ≡ Refused 14 5
unfolding opens job_j cert_j verdict_of
sums_are_whole v checked = only (4_294_967_293 ∷ 0 ∷ 0 ∷ 4_294_967_293 ∷ 0 ∷ 4_294_967_295 ∷ []) (Refused 14 5) v refl checked

-- cells 3 and 4 claim 9 where nothing can be had
claims_may_be_high : (v : Verdict) → Checked job_j (cert_j (0 ∷ 0 ∷ 0 ∷ 9 ∷ 9 ∷ 3 ∷ [])) v → v ≡ Accepted 3
unfolding opens job_j cert_j verdict_of
claims_may_be_high v checked = only (0 ∷ 0 ∷ 0 ∷ 9 ∷ 9 ∷ 3 ∷ []) (Accepted 3) v refl checked

-- ---- kind 1 the light way: a bit that is set on a tie, or above C, or in words that two labels share

-- two labels of weight 1 and value 3, C 1: label 0 has word 0, with the bit of 1 alone, and label 1, which does as well, has word 1, with none
module _ (cells words : List ℕ) (table : LightTable (plain 1 1 (1 ∷ 1 ∷ []) (3 ∷ 3 ∷ []) []) cells words) where
  abbrev alike : Job
  alike = plain 1 1 (1 ∷ 1 ∷ []) (3 ∷ 3 ∷ []) []

  right : LightTable alike (0 ∷ 3 ∷ []) (2 ∷ 0 ∷ [])
  unfolding opens is_light_table
  right = light_table_out alike (0 ∷ 0 ∷ 0 ∷ 3 ∷ 0 ∷ 3 ∷ []) _ _ tt

  none_above_c : at words 0 ≡ 2
  unfolding opens
  none_above_c = label_words_unique alike words (2 ∷ 0 ∷ []) table right 0 (lit≤ tt)

  tie_sets_none : at words 1 ≡ 0
  unfolding opens
  tie_sets_none = label_words_unique alike words (2 ∷ 0 ∷ []) table right 1 (lit≤ tt)

-- a certificate written from them: J's row 0 0 3, and what stood behind it. Its last cell isn't the picks' value
light_refused : verdict_of job_j (cert_j (0 ∷ 0 ∷ 3 ∷ 9 ∷ 9 ∷ 9 ∷ [])) ≡ Refused 15 0
unfolding opens job_j cert_j
light_refused = refl

-- ---- kind 8: a table that shows the last label by which a total can be reached, or has another mark; picks traced from kind 4's final bits

-- labels of 1, 2 and 3: total 3 takes the first two, and not the third
shows_the_first : (cell : ℕ) → LeastShown (ReachedBy (plain 8 3 (1 ∷ 2 ∷ 3 ∷ []) [] []) 3 3) cell → cell ≡ 2
unfolding opens is_first_row FirstRow
shows_the_first cell s = least_shown_unique s (first_row_out (plain 8 3 (1 ∷ 2 ∷ 3 ∷ []) [] []) (0 ∷ 1 ∷ 2 ∷ 2 ∷ []) tt 3 (lit≤ tt))

-- a label of 2: total 1 isn't reached
shows_the_mark : (cell : ℕ) → LeastShown (ReachedBy (plain 8 1 (2 ∷ []) [] []) 1 1) cell → cell ≡ 4_294_967_295
unfolding opens is_first_row FirstRow
shows_the_mark cell s = least_shown_unique s (first_row_out (plain 8 1 (2 ∷ []) [] []) (0 ∷ 4_294_967_295 ∷ []) tt 1 (lit≤ tt))

-- labels of 2 and 1, C 2: the bits of 0, 1 and 2 are set, and the last label leaves 1, which is reached by the same label alone
traced_twice : ¬ Weighs (plain 8 2 (2 ∷ 1 ∷ []) [] []) 2 2 (0 ∷ 1 ∷ [])
unfolding opens
traced_twice d = let one : ◌≡◌ {A = ℕ} 1 2 = d.weight in omega arith

-- two labels of 1, C 1: either weighs C, and the first is named
traced_last : ¬ Behind (plain 8 1 (1 ∷ 1 ∷ []) [] []) 2 1 (0 ∷ 1 ∷ [])
unfolding opens is_behind
traced_last b =
    let j = plain 8 1 (1 ∷ 1 ∷ []) [] [] in
    let same : ◌≡◌ {A = List ℕ} (0 ∷ 1 ∷ []) (1 ∷ 0 ∷ []) = behind_unique j 2 1 _ _ b (behind_out j (1 ∷ 0 ∷ []) tt) in
    let first : ◌≡◌ {A = ℕ} 0 1 = ap (λ (l : List ℕ). at l 0) same in
    omega arith

-- ---- kind 9: the best value, the value in cut values or the heavier of two labels with one cut value; a cell that isn't the least weight

module _ {way : Way} (before after : Lent) (ok : UnrefusedBy way stated_share share_job before) where
  says_8 : (a : Answer) → SolvedBy way share_job before a after → (a ≡ Says.Knapsack 8 2) × Holds (0 ∷ 1 ∷ []) before.picks after.picks
  says_8 a h = trial_says share_job (Says.Knapsack 8 2) (0 ∷ 1 ∷ []) (tried_goes stated_share) stated_share before after a ok h

  no_other_value : (v w : ℕ) → SolvedBy way share_job before (Says.Knapsack v w) after → (v ≡ 8) × (w ≡ 2)
  unfolding answer_numbers
  no_other_value v w h =
      let same : answer_numbers (Says.Knapsack v w) ≡ answer_numbers (Says.Knapsack 8 2) = ap answer_numbers (says_8 (Says.Knapsack v w) h).0 in
      (ap (λ (s : AnswerNumbers). s.value) same, ap (λ (s : AnswerNumbers). s.weight) same)

-- two labels of cut value 4 that weigh 3 and 2: total 4 weighs 2
shows_the_lightest : (cell : ℕ) → LeastShown (CutWeight share_job (4 ∷ 4 ∷ []) 2 4) cell → cell ≡ 2
unfolding opens is_stated_table StatedTable
shows_the_lightest cell s =
    let none : ℕ = 4_294_967_295 in
    let cells : List ℕ = 0 ∷ none ∷ none ∷ none ∷ none ∷ none ∷ none ∷ none ∷ none ∷ 0 ∷ none ∷ none ∷ none ∷ 3 ∷ none ∷ none ∷ none ∷ none
    ∷ 0 ∷ none ∷ none ∷ none ∷ 2 ∷ none ∷ none ∷ none ∷ none ∷ [] in
    least_shown_unique s (stated_table_out share_job cells tt 2 4 (lit≤ tt) (lit≤ tt))

-- ---- from C: a checker's entry that gives 0 for every certificate of a valid job, or for none; and a writer's entry that counts no bytes

module _ (entry : List ℕ → List ℕ → ℕ) (keeps : (jobB cert_b : List ℕ) → entry jobB cert_b ≡ refusal_number (verdict_of jobB cert_b)) where
  entry_refuses : ¬ ((jobB cert_b : List ℕ) (j : Job) → ValidJob jobB j → entry jobB cert_b ≡ 0)
  entry_refuses all =
      accepts_all Checked
      (λ jobB cert_b j ok. let x = zero_is_accepted jobB cert_b (sym (keeps jobB cert_b) ∙ all jobB cert_b j ok) in (x.value, x.accepted)) meets_demand_3

  entry_accepts : (jobB : List ℕ) (j : Job) → ValidJob jobB j → ¬ ((cert_b : List ℕ) → ¬ (entry jobB cert_b ≡ 0))
  unfolding refusal_number verdict_numbers
  entry_accepts jobB j ok none =
      refuses_all Checked jobB j ok
      (λ cert_b v checked. none cert_b (keeps jobB cert_b ∙ ap refusal_number (verdict_is jobB cert_b (Accepted v) checked))) meets_demand_3

-- the second entry gives the value
entry_gives_the_value : value_or_place (verdict_of job_j (cert_j (0 ∷ 0 ∷ 0 ∷ 9 ∷ 9 ∷ 3 ∷ []))) ≡ 3
unfolding opens job_j cert_j value_or_place
entry_gives_the_value = refl

-- and names the place of the first cell at fault
entry_names_the_place : value_or_place (verdict_of job_j (cert_j (0 ∷ 9 ∷ 0 ∷ 0 ∷ 0 ∷ 0 ∷ []))) ≡ 4
unfolding opens job_j cert_j value_or_place
entry_names_the_place = refl

entry_counts : (jobB : List ℕ) (k : Knapsack) (j : Job) (picks cells before after : List ℕ) (r bytes : ℕ) → read_job jobB ≡ readable j
    → certified_knapsack j.kind_number ≡ some k → writer_refusal k j picks cells before ≡ 0
    → WritesHost jobB picks cells before r bytes after → (r ≡ 0) × (bytes ≡ bytes_needed k j)
unfolding WritesBytes WritesRead written_numbers
entry_counts jobB k j picks cells before after r bytes reads of_knapsack ok h =
    let w : Writes j picks cells before h.answer after = rw reads at h.writes in
    let wrote : h.answer ≡ Bytes (bytes_needed k j) = counts_all k j of_knapsack picks cells before after h.answer ok w in
    (h.refusal ∙ ap (λ (a : Written). (written_numbers a).refusal) wrote, h.bytes_are ∙ ap (λ (a : Written). (written_numbers a).bytes) wrote)
