-- The writer on corner cases: room, refusals, and what it leaves.
-- Assumes nothing.
use mathlib.Core.Path.{◌≡◌, refl}
use Prim.Native.Nat.{suc, ℕ}
use mathlib.Core.List.{List, [], ◌++◌, ◌∷◌}
use lib.ListN.{replicate}
use Rattle.meaning.specs.Reports as Reports
use Rattle.meaning.specs.Slices.{Holds}
use Rattle.meaning.specs.Bounds.{most_budget, most_labels}
use Rattle.meaning.specs.Job.{Job, Knapsack, once, limited, free}
use Rattle.meaning.specs.Bytes.{job_bytes}
use Rattle.meaning.specs.Writer.{Writes, WritesBytes, WritesFor, WritesRead, bytes_needed, certificate, new_bytes, slices_fit, writer_refusal, written_as}
use Rattle.meaning.proofs.Opens.{opens}
use Rattle.meaning.proofs.Cases.{no_labels, plain}
use Rattle.meaning.proofs.Computing.{Computes, ◌gives◌}

abbrev writing : Knapsack × Job × List ℕ × List ℕ × List ℕ → ℕ
writing (k, j, picks, cells, out) = writer_refusal k j picks cells out

-- a job of one label and C 0
abbrev one_label : Job
one_label = plain 1 0 (1 ∷ []) (1 ∷ []) []

-- one of two labels and C 1, of kind 3
abbrev two_labels : Job
two_labels = plain 3 1 (1 ∷ 2 ∷ []) (1 ∷ 1 ∷ []) []

writings : Computes writing (
    (once, one_label, 1 ∷ [], 0 ∷ 1 ∷ [], replicate 20 0) gives 0  -- just enough
    ∷ (once, one_label, [], 0 ∷ 1 ∷ [], replicate 99 0) gives 6  -- one pick short
    ∷ (once, one_label, 1 ∷ [], 0 ∷ [], replicate 99 0) gives 6  -- one cell short
    ∷ (once, one_label, 1 ∷ [], 0 ∷ 1 ∷ [], replicate 19 0) gives 6  -- one byte short
    ∷ (once, no_labels, [], 5 ∷ [], replicate 12 0) gives 0  -- no picks
    ∷ (once, plain 1 (suc most_budget) (0 ∷ []) [] [], [], [], []) gives 3  -- no values
    ∷ (once, plain 1 (suc most_budget) (0 ∷ []) (1 ∷ []) [], [], [], []) gives 4  -- C above its bound
    ∷ (once, plain 1 0 (0 ∷ []) (1 ∷ []) [], [], [], []) gives 5  -- weight 0
    ∷ (limited, plain 2 0 (1 ∷ []) (1 ∷ []) (2 ∷ []), 0 ∷ [], 0 ∷ 0 ∷ [], replicate 20 0) gives 0  -- kind 2, just enough
    ∷ (limited, plain 2 0 (1 ∷ []) (1 ∷ []) (2 ∷ []), 0 ∷ [], 0 ∷ [], replicate 99 0) gives 6  -- one row for the table
    ∷ (limited, plain 2 0 (1 ∷ []) (1 ∷ []) [], [], [], []) gives 3  -- no copies
    ∷ (free, two_labels, 0 ∷ 0 ∷ [], 0 ∷ 1 ∷ [], replicate 24 0) gives 0  -- kind 3, just enough
    ∷ (free, two_labels, 0 ∷ 0 ∷ [], 0 ∷ [], replicate 99 0) gives 6  -- one cell short
    ∷ (free, two_labels, 0 ∷ 0 ∷ [], 0 ∷ 1 ∷ [], replicate 23 0) gives 6  -- one byte short
    ∷ (free, plain 3 0 (1 ∷ []) (0 ∷ []) [], [], [], []) gives 5  -- value 0 in kind 3
    ∷ []
    )
unfolding opens writer_refusal slices_fit bytes_needed
writings = refl

abbrev bytes_of_job : Knapsack × Job → ℕ
bytes_of_job (k, j) = bytes_needed k j

-- the longest: with the most labels and the greatest budget a certificate of kinds 1 and 2 has more than a gigabyte
most_bytes : Computes bytes_of_job (
    (once, plain 1 most_budget (replicate most_labels 1) [] []) gives 1_074_020_360
    ∷ (limited, plain 2 most_budget (replicate most_labels 1) [] []) gives 1_074_020_360
    ∷ (free, plain 3 most_budget (replicate most_labels 1) [] []) gives 278_536
    ∷ []
    )
unfolding opens bytes_needed
most_bytes = refl

needed_places_alone : certificate once no_labels (8 ∷ []) (5 ∷ 6 ∷ []) ≡ 0 ∷ 0 ∷ 0 ∷ 0 ∷ 1 ∷ 0 ∷ 0 ∷ 0 ∷ 5 ∷ 0 ∷ 0 ∷ 0 ∷ []
unfolding opens certificate
needed_places_alone = refl

-- kind 3's is one row
one_row_alone : certificate free (plain 3 0 (1 ∷ []) (1 ∷ []) []) (8 ∷ []) (5 ∷ 6 ∷ [])
    ≡ 1 ∷ 0 ∷ 0 ∷ 0 ∷ 8 ∷ 0 ∷ 0 ∷ 0 ∷ 1 ∷ 0 ∷ 0 ∷ 0 ∷ 5 ∷ 0 ∷ 0 ∷ 0 ∷ []
unfolding opens certificate
one_row_alone = refl

-- where 12 bytes are needed
written_answer : Computes (λ (r : ℕ). written_as r 12) (0 gives Reports.Bytes 12 ∷ 6 gives Reports.Refused 6 ∷ [])
unfolding written_as
written_answer = refl

-- a refusal writes nothing
written_bytes : Computes (λ (r : ℕ). new_bytes r (1 ∷ 2 ∷ [])) (0 gives (1 ∷ 2 ∷ []) ∷ 6 gives [] ∷ [])
unfolding new_bytes
written_bytes = refl

-- `unfolding writer_call` unfolds what the writer promises
unfoldable writer_call : Unit {0}
unfolding opens writer_refusal slices_fit bytes_needed certificate written_as new_bytes Writes WritesFor WritesRead WritesBytes Holds
writer_call = tt

-- the byte past the certificate stays
written_whole : Writes no_labels [] (5 ∷ []) (replicate 12 9 ++ (7 ∷ [])) (Reports.Bytes 12) (0 ∷ 0 ∷ 0 ∷ 0 ∷ 1 ∷ 0 ∷ 0 ∷ 0 ∷ 5 ∷ 0 ∷ 0 ∷ 0 ∷ 7 ∷ [])
unfolding writer_call
written_whole = record { numbers = refl; leaves = refl }

-- one byte short
not_written : Writes no_labels [] (5 ∷ []) (replicate 11 9) (Reports.Refused 6) (replicate 11 9)
unfolding writer_call
not_written = record { numbers = refl; leaves = refl }

-- kind 4 has no certificates
none_written : Writes (plain 4 0 [] [] []) [] [] (9 ∷ []) (Reports.Refused 2) (9 ∷ [])
unfolding writer_call
none_written = record { numbers = refl; leaves = refl }

-- the same on job bytes
written_from_bytes : WritesBytes (job_bytes no_labels) [] (5 ∷ []) (replicate 11 9) (Reports.Refused 6) (replicate 11 9)
unfolding writer_call
written_from_bytes = record { numbers = refl; leaves = refl }

-- no job
no_job_written : WritesBytes [] [] [] (9 ∷ []) (Reports.Refused 1) (9 ∷ [])
unfolding writer_call
no_job_written = record { numbers = refl; leaves = refl }
