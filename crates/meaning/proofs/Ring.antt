-- Solve, write, check: where a job of kinds 1 to 3 was answered, kind 1 by the full way, a writer with room doesn't refuse, and whoever checks what it wrote accepts
-- the answer's value.
-- Assumes nothing.
use mathlib.Core.Path.{◌≡◌, ap, refl, subst}
use mathlib.Core.Option.{some}
use Prim.Native.Nat.{◌≤◌, suc, zero, ℕ}
use native.Mathlib.Omega.{arith}
use mathlib.Core.Bool.{true}
use mathlib.Core.List.{List}
use lib.ListN.{drop, length, length-append, take}
use borrow.Author.Tests.{le-leb}
use Rattle.meaning.specs.Says as Says
use Rattle.meaning.specs.declared.Way.{Way}
use Rattle.meaning.specs.Reports.{Written}
use Rattle.meaning.specs.Reports.{Bytes}
use Rattle.meaning.specs.Lists.{if}
use Rattle.meaning.specs.Slices.{Holds}
use Rattle.meaning.specs.Job.{Job, Kind, Knapsack, kind_of, packing, labels}
use Rattle.meaning.specs.Lent.{Lent, Room, room_by, room_of}
use Rattle.meaning.specs.Refusals.{job_refusal, kind_refusal, rules_of}
use Rattle.meaning.specs.Bytes.{read_job, readable}
use Rattle.meaning.specs.Knapsacks.{BestPicks}
use Rattle.meaning.specs.Answers.{answer_numbers}
use Rattle.meaning.specs.Solved.{Answered, Gives, Outcome, SolvedBy, SolvedBytesBy, TableBy}
use Rattle.meaning.specs.Certificates.{Checked, certificate_cells, certified_knapsack}
use Rattle.meaning.specs.Writer.{Writes, WritesBytes, WritesRead, bytes_needed, certificate, slices_fit, writer_refusal, written_as, WritesAs}
use Rattle.meaning.specs.Demands.{AcceptedWith, LeavesClaims}
use Rattle.meaning.proofs.Unique.{answer_numbers_unique, written_numbers_unique}
use Rattle.meaning.proofs.Laws.{bytes_solved, kind_solved, writes_knapsack}
use Rattle.meaning.proofs.Valid.{is_cleared}
use Rattle.meaning.proofs.Certified.{certified_kind}
use Rattle.meaning.proofs.Ours.{claim_table, ours_accepted}

-- the writer wrote all of it, and whoever checks what it wrote accepts it
pub record RingClosed (jobB : List ℕ) (k : Knapsack) (j : Job) (value : ℕ) (w : Written) (out' : List ℕ) : Type 0 where
  pub written : w ≡ Bytes (bytes_needed k j)
  pub accepted : AcceptedWith Checked jobB (take (bytes_needed k j) out') value

-- a slice is as long as what it holds, or longer
holds_long : (new before after : List ℕ) → Holds new before after → length new ≤ length after
unfolding Holds
holds_long new before after h = omega (arith, ap length h, length-append new (drop (length new) before))

-- a job that was answered with a value wasn't refused
module _ (room : Room) (table : Lent → Type 0) (k : Kind) (j : Job) (before after : Lent) (value weight : ℕ) where
  not_turned_down : (r : ℕ) → Outcome r room table k j before (answer_numbers (Says.Knapsack value weight)) after
      → (r ≡ 0) × Answered room table k j before (answer_numbers (Says.Knapsack value weight)) after
  unfolding Outcome
  not_turned_down zero h = (refl, h)
  not_turned_down (suc r) h =
      let same : Says.Knapsack value weight ≡ Says.Refused (suc r) = answer_numbers_unique h.numbers in
      let z : ◌≡◌ {A = ℕ} 0 1 = cc in
      absurd (omega arith)

module _ (way : Way) (k : Knapsack) (j : Job) (of_knapsack : certified_knapsack j.kind_number ≡ some k) (leaves : LeavesClaims j way)
    (before after : Lent) (value weight : ℕ) (solved : SolvedBy way j before (Says.Knapsack value weight) after) where
  abbrev kind : Kind
  kind = packing k

  abbrev room : Room
  room = room_by way kind j

  of_kind : kind_of j.kind_number ≡ some kind
  of_kind = certified_kind j.kind_number k of_knapsack

  answered : (kind_refusal room kind j before ≡ 0) × Answered room (TableBy way kind j) kind j before (answer_numbers (Says.Knapsack value weight)) after
  answered =
      not_turned_down room (TableBy way kind j) kind j before after value weight (kind_refusal room kind j before)
      (kind_solved j before kind _ (Says.Knapsack value weight) after of_kind refl solved)

  -- so it may have a certificate
  keeps_rules : job_refusal (rules_of kind) j 0 ≡ 0
  unfolding kind_refusal
  keeps_rules =
      subst (λ (later : ℕ). job_refusal (rules_of kind) j later ≡ 0) (is_cleared room kind j before answered.0).keeps.later_none
      answered.0

  -- and left its picks and cells in the slices
  picks_there : labels j ≤ length after.picks
  unfolding Gives BestPicks
  picks_there = omega (arith, holds_long _ _ _ answered.1.picks_hold, answered.1.gives.picked.one_of.fits.selection.one_each)

  cells_there : certificate_cells k j ≤ length after.cells
  unfolding room_of
  cells_there =
      omega (arith, holds_long _ _ _ answered.1.cells_hold, answered.1.cells_needed, ap (λ (r : Room). r.cells) (claim_table k j of_kind leaves).room)

  module _ (out : List ℕ) (roomy : bytes_needed k j ≤ length out) where
    fits : slices_fit k j after.picks after.cells out ≡ true
    unfolding slices_fit
    fits = rw (le-leb _ _ picks_there, le-leb _ _ cells_there, le-leb _ _ roomy)

    not_refused_6 : writer_refusal k j after.picks after.cells out ≡ 0
    unfolding writer_refusal if
    not_refused_6 = rw fits keeps_rules

    all_written : (w : Written) (out' : List ℕ) → Writes j after.picks after.cells out w out' → w ≡ Bytes (bytes_needed k j)
    unfolding written_as
    all_written w out' writes =
        written_numbers_unique w (Bytes (bytes_needed k j))
        (subst (λ (r : ℕ). WritesAs r (bytes_needed k j) (certificate k j after.picks after.cells) out w out') not_refused_6
        (writes_knapsack k j of_knapsack after.picks after.cells out w out' writes)).numbers

    pub ring_by_lists : (jobB : List ℕ) → read_job jobB ≡ readable j → (w : Written) (out' : List ℕ)
        → Writes j after.picks after.cells out w out'
        → RingClosed jobB k j value w out'
    ring_by_lists jobB reads w out' writes =
        let written = all_written w out' writes in
        let (value', weight', same, accepted) =
        ours_accepted.by_lists way jobB j reads leaves before after (Says.Knapsack value weight) solved out out' (bytes_needed k j) (rw written at writes) in
        let worth : value' ≡ value = cc in
        record {
          written = written;
          accepted = subst (AcceptedWith Checked jobB (take (bytes_needed k j) out')) worth accepted;
        }

-- the same where the job comes as bytes to all three
pub ring_by_bytes : (way : Way) (jobB : List ℕ) (k : Knapsack) (j : Job) → read_job jobB ≡ readable j → certified_knapsack j.kind_number ≡ some k
    → LeavesClaims j way → (before after : Lent) (value weight : ℕ) → SolvedBytesBy way jobB before (Says.Knapsack value weight) after
    → (out : List ℕ) → bytes_needed k j ≤ length out → (w : Written) (out' : List ℕ) → WritesBytes jobB after.picks after.cells out w out'
    → RingClosed jobB k j value w out'
unfolding WritesBytes WritesRead
ring_by_bytes way jobB k j reads of_knapsack leaves before after value weight solved out roomy w out' writes =
    ring_by_lists way k j of_knapsack leaves before after value weight
    (bytes_solved jobB j before after (Says.Knapsack value weight) reads solved) out roomy jobB reads w out' (rw reads at writes)
