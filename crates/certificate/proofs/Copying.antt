-- What the writer promises, by the way it went: refused with a number, or both sections written.
-- Assumes nothing.
use mathlib.Core.Path.{◌≡◌, refl, ◌∙◌}
use mathlib.Core.Option.{Option, none, some}
use Prim.Native.Nat.{ℕ, zero, suc, ◌+◌, ◌*◌, ◌≤◌, ◌<◌}
use native.Mathlib.Omega.{arith}
use mathlib.Core.Bool.{true, false, not}
use mathlib.Core.List.{List, []}
use lib.ListN.{length, take}
use lib.Seq.{length-take-le}
use borrow.Author.Tests.{le-leb, lt-leb}
use Rattle.meaning.specs.Reports.{Written}
use Rattle.meaning.specs.Reports.{Bytes, Refused}
use Rattle.meaning.specs.Lists.{if}
use Rattle.meaning.specs.Slices.{Holds}
use Rattle.meaning.specs.Job.{Job, Knapsack, packing}
use Rattle.meaning.specs.Refusals.{job_refusal, rules_of}
use Rattle.meaning.specs.Bytes.{read_job, section_bytes, unreadable, readable}
use Rattle.meaning.specs.Certificates.{HasCertificates, certified_knapsack}
use Rattle.meaning.specs.Writer.{Writes, WritesAs, WritesBytes, WritesFor, WritesRead, bytes_needed, certificate, new_bytes, slices_fit}
use Rattle.meaning.specs.Writer.{writer_refusal, written_as}
use Rattle.meaning.proofs.Laws.{knapsack_writes}
use Rattle.meaning.proofs.Numbers.{section_long}
use Rattle.numbers.specs.Placed.{HoldsAt, SectionWritten}
use Rattle.numbers.proofs.Placed.{joined, from_start}
use Rattle.certificate.specs.Refusing.{refusal_for, certified_refusal}
use Rattle.certificate.specs.Copying.{CopiedFor}
use Rattle.requests.proofs.Judging.{earlier_given, none_earlier}

-- ---- by the number that applies

-- a refusal writes nothing
nothing_new : (r n : ℕ) (cert_b before : List ℕ) → ¬ (r ≡ 0) → WritesAs r n cert_b before (Refused r) before
unfolding written_as new_bytes Holds
nothing_new zero n cert_b before Some-number = absurd (Some-number refl)
nothing_new (suc r) n cert_b before Some-number = record { numbers = refl; leaves = refl }

-- 2: there are no certificates; the writer is then told of by the number alone
no_certificates : (o : Option Knapsack) (j : Job) (picks cells before : List ℕ) → ¬ (refusal_for o j ≡ 0)
    → WritesFor o j picks cells before (Refused (refusal_for o j)) before
unfolding refusal_for WritesFor writer_refusal
no_certificates none j picks cells before h = nothing_new 2 0 [] before (λ none_given. absurd (omega arith))
no_certificates (some k) j picks cells before h =
    rw (earlier_given (rules_of (packing k)) j (if (not (slices_fit k j picks cells before)) 6 0) h)
    (nothing_new (job_refusal (rules_of (packing k)) j 0) (bytes_needed k j) (certificate k j picks cells) before h)

-- 2 to 5
pub turned_away : (j : Job) (picks cells before : List ℕ) (r : ℕ) → r ≡ certified_refusal j → ¬ (r ≡ 0)
    → Writes j picks cells before (Refused r) before
unfolding certified_refusal Writes
turned_away j picks cells before r e Some-number =
    rw e (no_certificates (certified_knapsack j.kind_number) j picks cells before (λ none_given. Some-number (e ∙ none_given)))

module _ (k : Knapsack) (j : Job) (has : HasCertificates k j) (picks cells before : List ℕ) where
  as_given : (r : ℕ) → (if (not (slices_fit k j picks cells before)) 6 0) ≡ r → {a : Written} {after : List ℕ}
      → WritesAs r (bytes_needed k j) (certificate k j picks cells) before a after → Writes j picks cells before a after
  unfolding writer_refusal
  as_given r e {a} {after} writes =
      knapsack_writes k j has.of_knapsack picks cells before a after
      (rw (none_earlier (rules_of (packing k)) j (if (not (slices_fit k j picks cells before)) 6 0) has.not_refused, e) writes)

  -- 6: one of the three slices is too short
  too_short : slices_fit k j picks cells before ≡ false → Writes j picks cells before (Refused 6) before
  unfolding if
  too_short short = as_given 6 (rw short) (nothing_new 6 (bytes_needed k j) (certificate k j picks cells) before (λ none_given. absurd (omega arith)))

  -- none is
  all_written : slices_fit k j picks cells before ≡ true → (after : List ℕ) → Holds (certificate k j picks cells) before after
      → Writes j picks cells before (Bytes (bytes_needed k j)) after
  unfolding if written_as new_bytes
  all_written roomy after holds = as_given 0 (rw roomy) (record { numbers = refl; leaves = holds })

-- ---- the three slices

-- each is long enough
pub record Roomy (n count : ℕ) (picks cells before : List ℕ) : Type 0 where
  pub picks_fit : n ≤ length picks
  pub cells_fit : count ≤ length cells
  pub out_fits : 8 + 4 * n + 4 * count ≤ length before

-- or one of them isn't
module _ (n count : ℕ) (picks cells before : List ℕ) where
  pub short_picks : length picks < n → CopiedFor n count picks cells before (Refused 6) before
  unfolding CopiedFor slices_fit
  short_picks short k j has n-is count_is = too_short k j has picks cells before (rw (n-is, lt-leb n (length picks) short))

  pub short_cells : n ≤ length picks → length cells < count → CopiedFor n count picks cells before (Refused 6) before
  unfolding CopiedFor slices_fit
  short_cells picks_fit short k j has n-is count_is =
      too_short k j has picks cells before (rw (n-is, count_is, le-leb n (length picks) picks_fit, lt-leb count (length cells) short))

  pub short_out : n ≤ length picks → count ≤ length cells → length before < 8 + 4 * n + 4 * count
      → CopiedFor n count picks cells before (Refused 6) before
  unfolding CopiedFor slices_fit bytes_needed
  short_out picks_fit cells_fit short k j has n-is count_is =
      let out-short = lt-leb (8 + 4 * n + 4 * count) (length before) short in
      too_short k j has picks cells before (rw (n-is, count_is, le-leb n (length picks) picks_fit, le-leb count (length cells) cells_fit, out-short))

module _ {n count : ℕ} {picks cells before : List ℕ} (roomy : Roomy n count picks cells before) where
  -- so many are taken, and so long are their sections
  pub picks_taken : length (take n picks) ≡ n
  picks_taken = length-take-le n picks roomy.picks_fit

  pub cells_taken : length (take count cells) ≡ count
  cells_taken = length-take-le count cells roomy.cells_fit

  pub picks_long : length (section_bytes (take n picks)) ≡ 4 + 4 * n
  picks_long = omega (arith, section_long (take n picks), picks_taken)

  pub cells_long : length (section_bytes (take count cells)) ≡ 4 + 4 * count
  cells_long = omega (arith, section_long (take count cells), cells_taken)

  -- picks from the start on, and cells after them
  pub copied : (mid after : List ℕ) (middle end : ℕ) → SectionWritten 0 (take n picks) before mid middle
      → SectionWritten middle (take count cells) mid after end → CopiedFor n count picks cells before (Bytes (8 + 4 * n + 4 * count)) after
  unfolding CopiedFor slices_fit bytes_needed certificate
  copied mid after middle end first second k j has n-is count_is =
      let picksB = section_bytes (take n picks) in
      let cellsB = section_bytes (take count cells) in
      let there : HoldsAt (0 + length picksB) cellsB mid after = rw first.ends at second.written in
      let both = joined 0 picksB before mid (omega (arith, picks_long, roomy.out_fits)) first.written cellsB after there in
      let out_fits = le-leb (8 + 4 * n + 4 * count) (length before) roomy.out_fits in
      rw (← n-is, ← count_is)
      (all_written k j has picks cells before
      (rw (n-is, count_is, le-leb n (length picks) roomy.picks_fit, le-leb count (length cells) roomy.cells_fit, out_fits))
      after (rw (n-is, count_is) (from_start _ _ _ both)))

-- ---- job bytes

-- 1: job bytes that can't be read
pub no_job : (b picks cells before : List ℕ) (place : ℕ) → read_job b ≡ unreadable place → WritesBytes b picks cells before (Refused 1) before
unfolding WritesBytes WritesRead
no_job b picks cells before place e = rw e (nothing_new 1 0 [] before (λ none. absurd (omega arith)))

-- those that can are written for as the job that they hold
pub job_in_bytes : (b picks cells before after : List ℕ) (j : Job) (a : Written) → read_job b ≡ readable j
    → Writes j picks cells before a after → WritesBytes b picks cells before a after
unfolding WritesBytes WritesRead
job_in_bytes b picks cells before after j a e writes = rw e writes
