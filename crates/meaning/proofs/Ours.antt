-- Given the picks and the table as an answer of kinds 1 to 3 left them, the writer's output, unless refused, is accepted for that job.
-- Assumes nothing.
use mathlib.Core.Path.{◌∙◌, ◌≡◌, ap, ap₂, refl, subst, sym}
use mathlib.Core.Option.{Option, none, some}
use Prim.Native.Nat.{◌≤◌, suc, zero, ℕ, zero-le}
use native.Mathlib.Omega.{arith}
use mathlib.Core.Bool.{Bool, ◌&&◌, not}
use mathlib.Core.List.{List, ◌++◌}
use lib.Dec.{T, leb}
use lib.ListN.{length, length-append, take}
use lib.Seq.{length-take-le}
use mir.Facts.{and_yes, leb_yes, yes_and, yes_leb}
use Rattle.meaning.specs.Says.{Answer}
use Rattle.meaning.specs.Says as Says
use Rattle.meaning.specs.declared.Way.{Way}
use Rattle.meaning.specs.declared.Way.TheVariants.{Full}
use Rattle.meaning.specs.Reports.{Bytes, Refused}
use Rattle.meaning.specs.Lists.{if, total}
use Rattle.meaning.specs.Slices.{Holds}
use Rattle.meaning.specs.Job.{Job, Kind, kind_of, packing, labels, Knapsack}
use Rattle.meaning.specs.Lent.{Lent, Room, room_by, room_of}
use Rattle.meaning.specs.Refusals.{job_refusal, kind_refusal, rules_of, room_fits}
use Rattle.meaning.specs.Bytes.{JobRead, read_job, readable, section_bytes, unreadable}
use Rattle.meaning.specs.Knapsacks.{BestPicks}
use Rattle.meaning.specs.Answers.{answer_numbers, written_numbers, AnswerNumbers}
use Rattle.meaning.specs.Solved.{Answered, Gives, Outcome, Packed, SolvedBy, SolvedBytesBy, TableBy}
use Rattle.meaning.specs.Certificates.{Checked, certificate_cells, certified_knapsack, verdict_of, verdict_on_job}
use Rattle.meaning.specs.Writer.{Writes, WritesBytes, WritesFor, WritesRead, bytes_needed, new_bytes}
use Rattle.meaning.specs.Writer.{certificate, slices_fit, writer_refusal, written_as, WritesAs}
use Rattle.meaning.specs.Demands.{AcceptedWith, BestList, LeavesClaims, OursAccepted, full_way, other_kind}
use Rattle.meaning.proofs.EachKind.{ClaimTable, full_claims, not_once, one_way}
use Rattle.meaning.proofs.Unique.{answer_numbers_unique, written_numbers_unique}
use Rattle.meaning.proofs.Laws.{bytes_solved, holds_first, kind_solved}
use Rattle.meaning.proofs.Numbers.{section_long}
use Rattle.meaning.proofs.Valid.{Passed, has_passed, not_refused, past_if}
use Rattle.meaning.proofs.Covering.{exact_table}
use Rattle.meaning.proofs.Certified.{accepted_with, accepted_written, certified_kind}

-- ---- the bytes of a certificate

-- as many as are needed
pub certificate_long : (k : Knapsack) (j : Job) (picks cells : List ℕ) → labels j ≤ length picks → certificate_cells k j ≤ length cells
    → length (certificate k j picks cells) ≡ bytes_needed k j
unfolding certificate bytes_needed
certificate_long k j picks cells hp hc =
    let p : List ℕ = take (labels j) picks in
    let c : List ℕ = take (certificate_cells k j) cells in
    omega (
      arith,
      length-append (section_bytes p) (section_bytes c),
      section_long p,
      section_long c,
      length-take-le (labels j) picks hp,
      length-take-le (certificate_cells k j) cells hc,
    )

-- ---- a writer that answers how many bytes it wrote

-- the job is of a knapsack that has certificates, the writer didn't refuse, and wrote one
pub record WroteAll (j : Job) (picks cells out : List ℕ) (n : ℕ) (out' : List ℕ) : Type 0 where
  pub knapsack : Knapsack
  pub of_knapsack : certified_knapsack j.kind_number ≡ some knapsack
  pub not_turned_down : writer_refusal knapsack j picks cells out ≡ 0
  pub many : n ≡ bytes_needed knapsack j
  pub written : Holds (certificate knapsack j picks cells) out out'

bytes≢refused : (n r : ℕ) → written_numbers (Bytes n) ≡ written_numbers (Refused r) → ⊥
bytes≢refused n r e = let f : Bytes n ≡ Refused r = written_numbers_unique (Bytes n) (Refused r) e in let z : ◌≡◌ {A = ℕ} 0 1 = cc in omega arith

-- bytes were written, so there was no refusal
wrote_as : (r many : ℕ) (cert_b out : List ℕ) (n : ℕ) (out' : List ℕ) → WritesAs r many cert_b out (Bytes n) out'
    → (r ≡ 0) × (n ≡ many) × Holds cert_b out out'
unfolding written_as new_bytes
wrote_as zero many cert_b out n out' w =
    let f : Bytes n ≡ Bytes many = written_numbers_unique (Bytes n) (Bytes many) w.numbers in (refl, cc, w.leaves)
wrote_as (suc r) many cert_b out n out' w = absurd (bytes≢refused n (suc r) w.numbers)

wrote_all : (o : Option Knapsack) (j : Job) (picks cells out : List ℕ) (n : ℕ) (out' : List ℕ) → certified_knapsack j.kind_number ≡ o
    → WritesFor o j picks cells out (Bytes n) out' → WroteAll j picks cells out n out'
unfolding WritesFor written_as
wrote_all none j picks cells out n out' e w = absurd (bytes≢refused n 2 w.numbers)
wrote_all (some k) j picks cells out n out' e w =
    let (ok, many, written) = wrote_as (writer_refusal k j picks cells out) (bytes_needed k j) (certificate k j picks cells) out n out' w in
    record { knapsack = k; of_knapsack = e; not_turned_down = ok; many = many; written = written }

-- what came of a job that is not refused with the slices as they are after the call
answered_after : (r : ℕ) (room : Room) (table : Lent → Type 0) (k : Kind) (j : Job) (before after : Lent) (s : AnswerNumbers)
    → kind_refusal room k j before ≡ r
    → kind_refusal room k j after ≡ 0 → Outcome r room table k j before s after → Answered room table k j before s after
unfolding Outcome
answered_after zero room table k j before after s e f h = h
answered_after (suc r) room table k j before after s e f h =
    absurd (omega (arith, e, f, ap (λ (l : Lent). kind_refusal room k j l) h.nothing_written))

-- a way that leaves claims leaves the table that a certificate is written from
pub claim_table : {way : Way} (k : Knapsack) (j : Job) → kind_of j.kind_number ≡ some (packing k) → LeavesClaims j way → ClaimTable way k j
claim_table k j of_kind full_way = full_claims k j
claim_table {way} k j of_kind (other_kind not-1) =
    let same = one_way way Full (packing k) j (not_once j (packing k) of_kind not-1) in
    record { room = same.room ∙ (full_claims k j).room; table = same.table ∙ (full_claims k j).table }

-- ---- the ring: solve, write, check

module _ (way : Way) (j : Job) (leaves : LeavesClaims j way) (before after : Lent) (a : Answer) (out out' : List ℕ) (n : ℕ)
    (solved : SolvedBy way j before a after) (writes : Writes j after.picks after.cells out (Bytes n) out') where
  wrote : WroteAll j after.picks after.cells out n out'
  unfolding Writes
  wrote = wrote_all (certified_knapsack j.kind_number) j after.picks after.cells out n out' refl writes

  abbrev k : Knapsack
  k = wrote.knapsack

  abbrev kind : Kind
  kind = packing k

  of_kind : kind_of j.kind_number ≡ some kind
  of_kind = certified_kind j.kind_number k wrote.of_knapsack

  claims : ClaimTable way k j
  claims = claim_table k j of_kind leaves

  -- refusal 6, or none
  abbrev later : ℕ
  later = if (not (slices_fit k j after.picks after.cells out)) 6 0

  keeps : Passed (rules_of kind) j later
  unfolding writer_refusal
  keeps = has_passed (rules_of kind) j later wrote.not_turned_down

  ok : job_refusal (rules_of kind) j 0 ≡ 0
  unfolding writer_refusal
  ok = subst (λ (x : ℕ). job_refusal (rules_of kind) j x ≡ 0) keeps.later_none wrote.not_turned_down

  rooms : (labels j ≤ length after.picks) × (certificate_cells k j ≤ length after.cells)
  unfolding slices_fit
  rooms =
      let out_fits : Bool = leb (bytes_needed k j) (length out) in
      let picks_fit : Bool = leb (labels j) (length after.picks) in
      let cells_fit : Bool = leb (certificate_cells k j) (length after.cells) in
      let (inputs, output-fits) =
      and_yes (picks_fit && cells_fit) out_fits (past_if (slices_fit k j after.picks after.cells out) 5 0 keeps.later_none).0 in
      let (picks-do, cells-do) = and_yes picks_fit cells_fit inputs in
      (leb_yes picks-do, leb_yes cells-do)

  enough : T (room_fits (room_by way kind j) after)
  unfolding room_of room_fits
  enough =
      let cells_fit : Bool = leb (certificate_cells k j) (length after.cells) in
      rw claims.room
      (yes_and (cells_fit && leb 0 (length after.words)) (leb (labels j) (length after.picks))
      (yes_and cells_fit (leb 0 (length after.words)) (yes_leb rooms.1) (yes_leb {b = length after.words} zero-le)) (yes_leb rooms.0))

  answered : Answered (room_by way kind j) (TableBy way kind j) kind j before (answer_numbers a) after
  answered =
      let room = room_by way kind j in
      answered_after (kind_refusal room kind j before) room (TableBy way kind j) kind j before after (answer_numbers a) refl
      (not_refused room k j after later keeps enough)
      (kind_solved j before kind (kind_refusal room kind j before) a after of_kind refl solved)

  abbrev picks : List ℕ
  picks = answered.content.picks

  packed : Packed (BestPicks k j (labels j) j.budget) j (answer_numbers a) picks
  unfolding Gives
  packed = answered.gives

  best : BestList k j picks
  unfolding BestPicks BestList
  best = packed.picked.one_of

  same_picks : take (labels j) after.picks ≡ picks
  unfolding BestList
  same_picks = holds_first _ _ _ _ answered.picks_hold best.fits.selection.one_each

  long_cells : length answered.content.cells ≡ certificate_cells k j
  unfolding room_of
  long_cells = answered.cells_needed ∙ ap (λ (r : Room). r.cells) claims.room

  same_cells : take (certificate_cells k j) after.cells ≡ answered.content.cells
  same_cells = holds_first _ _ _ _ answered.cells_hold long_cells

  output : take n out' ≡ section_bytes picks ++ section_bytes answered.content.cells
  unfolding certificate
  output =
      holds_first _ _ _ _ wrote.written
      (certificate_long k j after.picks after.cells rooms.0 rooms.1 ∙ sym wrote.many)
      ∙ ap₂ (λ (p c : List ℕ). section_bytes p ++ section_bytes c) same_picks same_cells

  -- the bytes written are accepted, with the value of the answer
  ours : (jobB : List ℕ) → read_job jobB ≡ readable j
      → (value weight : ℕ) × (a ≡ Says.Knapsack value weight) × AcceptedWith Checked jobB (take n out') value
  unfolding verdict_of
  ours jobB reads = (
    total j.values picks,
    total j.weights picks,
    answer_numbers_unique packed.numbers,
    accepted_with jobB (take n out') (total j.values picks)
        (ap₂ verdict_on_job reads output
        ∙ accepted_written k j picks answered.content.cells (record { of_knapsack = wrote.of_knapsack; not_refused = ok }) best long_cells
        (exact_table k j answered.content.cells (subst (λ (holds : Lent → Type 0). holds answered.content) claims.table answered.table_right))),
  )

-- the same where the job comes as bytes to all three
ours_bytes : (way : Way) (r : JobRead) (jobB : List ℕ) (before after : Lent) (a : Answer) (out out' : List ℕ) (n : ℕ) → read_job jobB ≡ r
    → ((j : Job) → read_job jobB ≡ readable j → LeavesClaims j way)
    → SolvedBytesBy way jobB before a after → WritesRead r after.picks after.cells out (Bytes n) out'
    → (value weight : ℕ) × (a ≡ Says.Knapsack value weight) × AcceptedWith Checked jobB (take n out') value
unfolding WritesRead written_as
ours_bytes way (unreadable place) jobB before after a out out' n e leaves s w = absurd (bytes≢refused n 1 w.numbers)
ours_bytes way (readable j) jobB before after a out out' n e leaves s w =
    ours way j (leaves j e) before after a out out' n (bytes_solved jobB j before after a e s) w jobB e

pub ours_accepted : OursAccepted Checked
unfolding WritesBytes
ours_accepted = record {
  by_lists = λ way jobB j reads leaves before after a s out out' n w. ours way j leaves before after a out out' n s w jobB reads;
  by_bytes = λ way jobB leaves before after a s out out' n w. ours_bytes way (read_job jobB) jobB before after a out out' n refl leaves s w;
}
