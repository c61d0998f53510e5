-- Verdicts on corner certificates, and on jobs that have none.
-- Assumes nothing.
use mathlib.Core.Path.{◌≡◌, refl, ◌∙◌}
use mathlib.Core.Option.{none}
use Prim.Native.Nat.{ℕ, suc, ◌≤◌, ◌<◌}
use native.Mathlib.Omega.{arith}
use mathlib.Core.Bool.{false}
use mathlib.Core.List.{List, [], ◌++◌, ◌∷◌}
use lib.Dec.{lit≤, ltb}
use borrow.Author.Count.{below_more}
use borrow.Author.Tests.{le-ltb}
use Rattle.meaning.specs.Judges.{Verdict}
use Rattle.meaning.specs.Judges.{Accepted, Refused}
use Rattle.meaning.specs.Lists.{if, total}
use Rattle.meaning.specs.Job.{Job, job_of, labels, limited}
use Rattle.meaning.specs.Bounds.{most_copies}
use Rattle.meaning.specs.Lent.{cell_count}
use Rattle.meaning.specs.Knapsacks.{cell_number}
use Rattle.meaning.specs.Bytes.{job_bytes, section_bytes}
use Rattle.meaning.specs.Certificates.{below_with, cell_at, certificate_cell, certificate_cells, first, low_cell, low_in_row, misvalued, most_picks, or_else}
use Rattle.meaning.specs.Certificates.{over_picked, overweight, some_of, too_low, verdict_of, verdict_on_cells}
use Rattle.meaning.specs.Trials.{cert_j, job_j}
use Rattle.meaning.proofs.Searches.{none_first}
use Rattle.meaning.proofs.Covering.{copies_past}
use Rattle.meaning.proofs.Verdicts.{accepts_seen}
use Rattle.meaning.proofs.Opens.{opens}
use Rattle.meaning.proofs.Cases.{plain}
use Rattle.meaning.proofs.Computing.{Computes, ◌gives◌}

abbrev pair : List ℕ
unfolding job_bytes
pair = job_bytes (plain 1 1 (1 ∷ 1 ∷ []) (1 ∷ 1 ∷ []) [])

abbrev empty : ℕ → List ℕ
unfolding job_bytes
empty budget = job_bytes (plain 1 budget [] [] [])

abbrev written : List ℕ → List ℕ → List ℕ
unfolding section_bytes
written picks cells = section_bytes picks ++ section_bytes cells

abbrev judge : List ℕ × List ℕ → Verdict
judge (jobB, cert_b) = verdict_of jobB cert_b

verdicts : Computes judge (
    (job_j, cert_j (0 ∷ 0 ∷ 0 ∷ 0 ∷ 0 ∷ 3 ∷ [])) gives Accepted 3  -- third entry of J
    ∷ (job_j, cert_j (0 ∷ 0 ∷ 0 ∷ 0 ∷ 0 ∷ 4 ∷ [])) gives Refused 15 0  -- fourth entry of J
    ∷ (job_j, cert_j (4_294_967_295 ∷ 0 ∷ 0 ∷ 4_294_967_295 ∷ 0 ∷ 4_294_967_295 ∷ [])) gives Refused 14 5  -- sums of cells pass 32 bits
    ∷ (job_j, cert_j (0 ∷ 3 ∷ 0 ∷ 4_294_967_295 ∷ 3 ∷ 3 ∷ [])) gives Accepted 3  -- cells above the best values
    ∷ (job_j, cert_j (0 ∷ 9 ∷ 0 ∷ 0 ∷ 0 ∷ 0 ∷ [])) gives Refused 14 4  -- below the row before
    ∷ (pair, written (0 ∷ 1 ∷ []) (0 ∷ 0 ∷ 0 ∷ 1 ∷ 0 ∷ 1 ∷ [])) gives Accepted 1  -- best, and not the chosen list
    ∷ (pair, written (0 ∷ 2 ∷ []) (0 ∷ 0 ∷ 0 ∷ 0 ∷ 0 ∷ 0 ∷ [])) gives Refused 12 1  -- a pick of 2
    ∷ (job_j, written (4_294_967_295 ∷ []) (0 ∷ 0 ∷ 0 ∷ 0 ∷ 0 ∷ 0 ∷ [])) gives Refused 12 0  -- a large pick
    ∷ (pair, written (1 ∷ 1 ∷ []) (0 ∷ 0 ∷ 0 ∷ 0 ∷ 0 ∷ 0 ∷ [])) gives Refused 13 0  -- too heavy
    ∷ (job_j, cert_j (0 ∷ 0 ∷ 0 ∷ 0 ∷ 0 ∷ [])) gives Refused 11 0  -- a cell too few
    ∷ (job_j, (cert_j (0 ∷ 0 ∷ 0 ∷ 0 ∷ 0 ∷ 3 ∷ []) ++ (0 ∷ []))) gives Refused 11 0  -- a byte left over
    ∷ (job_j, 255 ∷ 255 ∷ 255 ∷ 255 ∷ []) gives Refused 11 0  -- a count far past the end
    ∷ (job_j, []) gives Refused 11 0  -- no certificate
    ∷ ([], []) gives Refused 1 0  -- no job
    ∷ (job_bytes (plain 0 2 (2 ∷ []) (3 ∷ []) []), []) gives Refused 2 0  -- kind 0
    ∷ (job_bytes (plain 4 2 (2 ∷ []) [] []), []) gives Refused 2 0  -- kind 4
    ∷ (job_bytes (plain 1 2 (4_294_967_295 ∷ []) (3 ∷ []) []), cert_j (0 ∷ 0 ∷ 0 ∷ 0 ∷ 0 ∷ 0 ∷ [])) gives Refused 13 0  -- a weight of 32 bits
    ∷ (job_bytes (plain 1 2 (0 ∷ []) (3 ∷ []) []), []) gives Refused 5 0  -- the job before the certificate
    ∷ (empty 0, written [] (0 ∷ [])) gives Accepted 0  -- no labels
    ∷ (empty 0, written [] (1 ∷ [])) gives Refused 15 0  -- no labels, and 1 claimed
    ∷ (empty 1, written [] (7 ∷ 0 ∷ [])) gives Accepted 0  -- row 0 is not 0
    ∷ []
    )
unfolding opens job_j cert_j pair empty written
verdicts = refl

-- ---- kind 2

-- C 2, and a label that weighs 1, is worth v and has so many copies
abbrev copied : ℕ → ℕ → List ℕ
unfolding job_bytes
copied v copies = job_bytes (plain 2 2 (1 ∷ []) (v ∷ []) (copies ∷ []))

verdicts_copied : Computes judge (
    (copied 3 2, written (2 ∷ []) (0 ∷ 0 ∷ 0 ∷ 0 ∷ 3 ∷ 6 ∷ [])) gives Accepted 6  -- exact cells
    ∷ (copied 3 2, written (2 ∷ []) (0 ∷ 0 ∷ 0 ∷ 9 ∷ 9 ∷ 6 ∷ [])) gives Accepted 6  -- some above the best values
    ∷ (copied 3 2, written (2 ∷ []) (0 ∷ 9 ∷ 0 ∷ 0 ∷ 3 ∷ 6 ∷ [])) gives Refused 14 4  -- too low for none
    ∷ (copied 3 2, written (2 ∷ []) (0 ∷ 0 ∷ 0 ∷ 0 ∷ 2 ∷ 6 ∷ [])) gives Refused 14 4  -- for one
    ∷ (copied 3 2, written (2 ∷ []) (0 ∷ 0 ∷ 0 ∷ 0 ∷ 3 ∷ 5 ∷ [])) gives Refused 14 5  -- for the last copy
    ∷ (copied 3 1, written (1 ∷ []) (0 ∷ 0 ∷ 0 ∷ 0 ∷ 3 ∷ 3 ∷ [])) gives Accepted 3  -- a count past the copies isn't asked about
    ∷ (copied 3 2, written (2 ∷ []) (0 ∷ 0 ∷ 0 ∷ 0 ∷ 3 ∷ 7 ∷ [])) gives Refused 15 0  -- 7 claimed, and 6 picked
    ∷ (copied 3 0, written (0 ∷ []) (0 ∷ 0 ∷ 0 ∷ 0 ∷ 0 ∷ 0 ∷ [])) gives Accepted 0  -- no copies
    ∷ (copied 3 0, written (1 ∷ []) (0 ∷ 0 ∷ 0 ∷ 0 ∷ 0 ∷ 0 ∷ [])) gives Refused 12 0  -- one picked of them
    ∷ (copied 3 2, written (3 ∷ []) (0 ∷ 0 ∷ 0 ∷ 0 ∷ 3 ∷ 6 ∷ [])) gives Refused 12 0  -- a pick more than the copies
    ∷ (copied 3 3, written (3 ∷ []) (0 ∷ 0 ∷ 0 ∷ 0 ∷ 3 ∷ 6 ∷ [])) gives Refused 13 0  -- as many, and too heavy
    ∷ (copied 3 65_535, written (65_535 ∷ []) (0 ∷ 0 ∷ 0 ∷ 0 ∷ 3 ∷ 6 ∷ [])) gives Refused 13 0  -- the most copies, all of them picked
    ∷ (copied 3 65_535, written (65_536 ∷ []) (0 ∷ 0 ∷ 0 ∷ 0 ∷ 3 ∷ 6 ∷ [])) gives Refused 12 0  -- one more
    ∷ (copied 3 65_536, []) gives Refused 5 0  -- a copies number past its bound
    -- picks that weigh more than 32 bits
    ∷ (job_bytes (plain 2 2 (4_294_967_295 ∷ []) (3 ∷ []) (65_535 ∷ [])), written (65_535 ∷ []) (0 ∷ 0 ∷ 0 ∷ 0 ∷ 0 ∷ 0 ∷ [])) gives Refused 13 0
    -- two values and a cell near 2^32 pass 32 bits
    ∷ (copied 65_535 2, written (2 ∷ []) (4_294_836_226 ∷ 0 ∷ 0 ∷ 4_294_836_226 ∷ 4_294_901_761 ∷ 4_294_967_295 ∷ [])) gives Refused 14 5
    ∷ (copied 65_535 2, written (2 ∷ []) (4_294_836_225 ∷ 0 ∷ 0 ∷ 4_294_836_225 ∷ 4_294_901_760 ∷ 4_294_967_295 ∷ [])) gives Refused 15 0
    ∷ (copied 3 2, written (2 ∷ []) (0 ∷ 3 ∷ 6 ∷ [])) gives Refused 11 0  -- one row for the table
    ∷ (job_bytes (plain 2 2 (9 ∷ []) (3 ∷ []) (2 ∷ [])), written (0 ∷ []) (0 ∷ 0 ∷ 0 ∷ 0 ∷ 0 ∷ 0 ∷ [])) gives Accepted 0  -- a weight above C
    ∷ (job_bytes (plain 2 0 (1 ∷ []) (3 ∷ []) (2 ∷ [])), written (0 ∷ []) (0 ∷ 0 ∷ [])) gives Accepted 0  -- C 0
    ∷ (job_bytes (plain 2 0 (1 ∷ []) (3 ∷ []) (2 ∷ [])), written (0 ∷ []) (1 ∷ 0 ∷ [])) gives Refused 14 1  -- C 0, below the row before
    ∷ (job_bytes (plain 2 0 [] [] []), written [] (0 ∷ [])) gives Accepted 0  -- no labels
    ∷ []
    )
unfolding opens copied written
verdicts_copied = refl

-- however many copies there are, of which two fit: their number isn't counted out
module _ (copies : ℕ) (two-or-more : 2 ≤ copies) where
  abbrev many : Job
  many = plain 2 2 (1 ∷ []) (3 ∷ []) (copies ∷ [])

  abbrev exact : List ℕ
  exact = 0 ∷ 0 ∷ 0 ∷ 0 ∷ 3 ∷ 6 ∷ []

  in_row_0 : (c : ℕ) → low_in_row limited many exact 0 c ≡ false
  unfolding low_in_row
  in_row_0 c = refl

  in_row_1 : (c : ℕ) → c ≤ 2 → some_of (below_with limited many exact 0 c) (suc c) ≡ false → low_in_row limited many exact 1 c ≡ false
  unfolding low_in_row most_picks job_of
  in_row_1 c h kept = copies_past limited many exact 0 c copies (lit≤ tt) (omega arith) ∙ kept

  budget_0 : low_in_row limited many exact 1 0 ≡ false
  unfolding opens
  budget_0 = in_row_1 0 (lit≤ tt) refl

  budget_1 : low_in_row limited many exact 1 1 ≡ false
  unfolding opens
  budget_1 = in_row_1 1 (lit≤ tt) refl

  budget_2 : low_in_row limited many exact 1 2 ≡ false
  unfolding opens
  budget_2 = in_row_1 2 (lit≤ tt) refl

  -- one cell after the other
  more : (n : ℕ) → ((m : ℕ) → m < n → too_low limited many exact m ≡ false) → too_low limited many exact n ≡ false
      → (m : ℕ) → m < suc n → too_low limited many exact m ≡ false
  more n before here m h = below_more (λ (x : ℕ). too_low limited many exact x ≡ false) n before here m (omega arith)

  none_low : low_cell limited many exact ≡ none
  unfolding low_cell certificate_cells cell_count job_of labels too_low
  none_low =
      none_first (too_low limited many exact) 6
      (more 5 (more 4 (more 3 (more 2 (more 1 (more 0 (λ m h. absurd (omega arith)) (in_row_0 0)) (in_row_0 1)) (in_row_0 2)) budget_0) budget_1)
      budget_2)

  within : ltb copies 2 ≡ false
  within = le-ltb copies 2 two-or-more

  many_copies : verdict_on_cells limited many (2 ∷ []) exact ≡ Accepted 6
  unfolding over_picked overweight misvalued most_picks first or_else if job_of labels total cell_at certificate_cell cell_number
  many_copies =
      accepts_seen limited many (2 ∷ []) exact 6
      (record { within_counts = rw within refl; light = refl; rule_kept = none_low; same = refl; value = refl })

-- the most of them
most_copies_lem : verdict_on_cells limited (plain 2 2 (1 ∷ []) (3 ∷ []) (most_copies ∷ [])) (2 ∷ []) (0 ∷ 0 ∷ 0 ∷ 0 ∷ 3 ∷ 6 ∷ []) ≡ Accepted 6
unfolding most_copies
most_copies_lem = many_copies most_copies (lit≤ tt)

-- ---- kind 3

-- C 4, and a label that weighs 2 and is worth 3
abbrev unlimited : List ℕ
unfolding job_bytes
unlimited = job_bytes (plain 3 4 (2 ∷ []) (3 ∷ []) [])

-- C 2, and labels that weigh 1 and 2 and are worth 1 and 3
abbrev two : List ℕ
unfolding job_bytes
two = job_bytes (plain 3 2 (1 ∷ 2 ∷ []) (1 ∷ 3 ∷ []) [])

verdicts_free : Computes judge (
    (unlimited, written (2 ∷ []) (0 ∷ 0 ∷ 3 ∷ 3 ∷ 6 ∷ [])) gives Accepted 6  -- exact cells
    ∷ (unlimited, written (2 ∷ []) (0 ∷ 7 ∷ 3 ∷ 10 ∷ 6 ∷ [])) gives Accepted 6  -- some above the best values
    ∷ (unlimited, written (2 ∷ []) (0 ∷ 7 ∷ 3 ∷ 3 ∷ 6 ∷ [])) gives Refused 14 3  -- which ask for more
    ∷ (unlimited, written (2 ∷ []) (0 ∷ 0 ∷ 3 ∷ 3 ∷ 5 ∷ [])) gives Refused 14 4  -- too low at cell C
    ∷ (unlimited, written (2 ∷ []) (0 ∷ 0 ∷ 0 ∷ 0 ∷ 0 ∷ [])) gives Refused 14 2  -- no cell below the weight is too low
    ∷ (unlimited, written (2 ∷ []) (9 ∷ 0 ∷ 12 ∷ 3 ∷ 15 ∷ [])) gives Refused 15 0  -- cell 0 may be any; 15 claimed, and 6 picked
    ∷ (unlimited, written (3 ∷ []) (0 ∷ 0 ∷ 3 ∷ 3 ∷ 6 ∷ [])) gives Refused 13 0  -- too heavy
    ∷ (unlimited, written (65_535 ∷ []) (0 ∷ 0 ∷ 3 ∷ 3 ∷ 6 ∷ [])) gives Refused 13 0  -- the most picks
    ∷ (unlimited, written (65_536 ∷ []) (0 ∷ 0 ∷ 3 ∷ 3 ∷ 6 ∷ [])) gives Refused 12 0  -- one more
    ∷ (two, written (0 ∷ 1 ∷ []) (0 ∷ 1 ∷ 3 ∷ [])) gives Accepted 3  -- two labels
    ∷ (two, written (0 ∷ 1 ∷ []) (0 ∷ 1 ∷ 1 ∷ [])) gives Refused 14 2  -- both at fault in one cell
    ∷ (two, written (0 ∷ 1 ∷ []) (0 ∷ 0 ∷ 0 ∷ [])) gives Refused 14 1  -- the first cell, though a later one is lower
    ∷ (two, written (0 ∷ 1 ∷ []) (4_294_967_294 ∷ 4_294_967_295 ∷ 4_294_967_295 ∷ [])) gives Refused 14 2  -- sums of cells pass 32 bits
    -- picks that weigh more than 32 bits
    ∷ (job_bytes (plain 3 0 (4_294_967_295 ∷ []) (1 ∷ []) []), written (65_535 ∷ []) (0 ∷ [])) gives Refused 13 0
    ∷ (unlimited, written (2 ∷ []) (0 ∷ 0 ∷ 0 ∷ 0 ∷ 0 ∷ 0 ∷ 0 ∷ 3 ∷ 3 ∷ 6 ∷ [])) gives Refused 11 0  -- the count of the full table
    ∷ (job_bytes (plain 3 1 (9 ∷ []) (3 ∷ []) []), written (0 ∷ []) (5 ∷ 0 ∷ [])) gives Accepted 0  -- a weight above C
    ∷ (job_bytes (plain 3 0 (1 ∷ []) (3 ∷ []) []), written (0 ∷ []) (0 ∷ [])) gives Accepted 0  -- C 0
    ∷ (job_bytes (plain 3 0 (1 ∷ []) (3 ∷ []) []), written (0 ∷ []) (1 ∷ [])) gives Refused 15 0  -- C 0, and 1 claimed
    ∷ (job_bytes (plain 3 1 [] [] []), written [] (7 ∷ 0 ∷ [])) gives Accepted 0  -- no labels
    ∷ (job_bytes (plain 3 2 (1 ∷ []) (0 ∷ []) []), []) gives Refused 5 0  -- the job before the certificate
    ∷ []
    )
unfolding opens unlimited two written
verdicts_free = refl
