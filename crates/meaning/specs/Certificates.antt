-- Certificates for kinds 1 to 3: what each knapsack asks of one, and the checker's verdict.
-- Assumes nothing.
use Rattle.std.specs.Prelude.{◌≡◌, ℕ, zero, suc, ◌+◌, ◌-◌, ◌*◌, ◌/◌, ◌%◌, Bool, false, ◌&&◌, ◌||◌, not, List, [], ◌∷◌, leb, ltb, eqb}
use Rattle.std.proofs.Math.Option.{Option, none, some}
use Rattle.std.proofs.Math.ListN.{get_elem?}
use Rattle.meaning.specs.Judges.{Verdict}
use Rattle.meaning.specs.Judges.{Accepted, Refused}
use Rattle.std.specs.Prelude.{Some}
use Rattle.meaning.specs.Lists.{at, total, if}
use Rattle.meaning.specs.Job.{Job, labels, Knapsack, once, limited, free, packing}
use Rattle.meaning.specs.Bounds.{most_of_one}
use Rattle.meaning.specs.Lent.{cell_count}
use Rattle.meaning.specs.Refusals.{job_refusal, rules_of}
use Rattle.meaning.specs.Bytes.{read_section, with_section, at_end, JobRead, unreadable, readable, read_job}
use Rattle.meaning.specs.Knapsacks.{cell_number}
use Rattle.meaning.specs.Answers.{verdict_numbers}

-- ---- searching

-- the one, or else the other
unfoldable pub or_else : Option ℕ → Option ℕ → Option ℕ
or_else (some i) other = some i
or_else none other = other

-- the first of 0, 1, .. n-1 that passes the test
unfoldable pub first : (ℕ → Bool) → ℕ → Option ℕ
first test zero = none
first test (suc n) = or_else (first test n) (if (test n) (some n) none)

-- some of 0, 1, .. n-1 passes the test
unfoldable pub some_of : (ℕ → Bool) → ℕ → Bool
some_of test zero = false
some_of test (suc n) = some_of test n || test n

-- ---- what each knapsack asks of a certificate

-- the most picks that label i may have: one; its copies; 65,535
unfoldable pub most_picks : Knapsack → Job → ℕ → ℕ
most_picks once j i = 1
most_picks limited j i = at j.copies i
most_picks free j i = most_of_one

-- how many cells there are: as in the full table; in kind 3 one row
unfoldable pub certificate_cells : Knapsack → Job → ℕ
certificate_cells once j = cell_count j
certificate_cells limited j = cell_count j
certificate_cells free j = j.budget + 1

-- the number of the cell K(i,c): i(C+1)+c; in kind 3, whose one row is for any labels, c
unfoldable pub certificate_cell : Knapsack → Job → ℕ → ℕ → ℕ
certificate_cell once j i c = cell_number j i c
certificate_cell limited j i c = cell_number j i c
certificate_cell free j i c = c

-- what stands in it
unfoldable pub cell_at : Knapsack → Job → List ℕ → ℕ → ℕ → ℕ
cell_at k j cells i c = at cells (certificate_cell k j i c)

-- x picks of label i weigh at most c, and K(i+1,c) is below K(i,c - their weight) plus their value
unfoldable pub below_with : Knapsack → Job → List ℕ → ℕ → ℕ → ℕ → Bool
below_with k j cells i c x =
    leb (at j.weights i * x) c
    && ltb (cell_at k j cells (suc i) c) (cell_at k j cells i (c - at j.weights i * x) + at j.values i * x)

-- kinds 1 and 2, at row i, from 1 up, and budget c: K(i,c) is too low for some count of label i-1 from 0 to the most it may have
unfoldable pub low_in_row : Knapsack → Job → List ℕ → ℕ → ℕ → Bool
low_in_row k j cells zero c = false
low_in_row k j cells (suc i) c = some_of (below_with k j cells i c) (suc (most_picks k j i))

-- kind 3, at cell c: it is too low for one of some label
unfoldable pub low_for_one : Job → List ℕ → ℕ → Bool
low_for_one j cells c = some_of (λ i. below_with free j cells i c 1) (labels j)

-- rule 14 is broken at cell m
unfoldable pub too_low : Knapsack → Job → List ℕ → ℕ → Bool
too_low once j cells m = low_in_row once j cells (m / (j.budget + 1)) (m % (j.budget + 1))
too_low limited j cells m = low_in_row limited j cells (m / (j.budget + 1)) (m % (j.budget + 1))
too_low free j cells m = low_for_one j cells m

-- ---- 12 to 15

-- 12: the first label that has more picks than it may
unfoldable pub over_picked : Knapsack → Job → List ℕ → Option ℕ
over_picked k j picks = first (λ i. ltb (most_picks k j i) (at picks i)) (labels j)

-- 13: the picks weigh more than C
unfoldable pub overweight : Job → List ℕ → Bool
overweight j picks = ltb j.budget (total j.weights picks)

-- 14: the number of the first cell at which its rule is broken
unfoldable pub low_cell : Knapsack → Job → List ℕ → Option ℕ
low_cell k j cells = first (too_low k j cells) (certificate_cells k j)

-- 15: K(n,C) isn't the picks' value
unfoldable pub misvalued : Knapsack → Job → List ℕ → List ℕ → Bool
misvalued k j picks cells = not (eqb (cell_at k j cells (labels j) j.budget) (total j.values picks))

-- ---- the verdict

-- refused at the place that was found, or else what comes next
unfoldable pub unless_found : Option ℕ → ℕ → Verdict → Verdict
unless_found (some place) r next = Refused r place
unless_found none r next = next

-- the verdict on picks and cells of the needed counts, for a valid job: 12 to 15 in this order, or else the picks' value
unfoldable pub verdict_on_cells : Knapsack → Job → List ℕ → List ℕ → Verdict
verdict_on_cells k j picks cells =
    unless_found (over_picked k j picks) 12
    (if (overweight j picks) (Refused 13 0)
    (unless_found (low_cell k j cells) 14
    (if (misvalued k j picks cells) (Refused 15 0)
    (Accepted (total j.values picks)))))

-- 11: bytes cut short, left over, or a count that isn't the needed one. The place isn't told
unfoldable pub certificate_broken : ℕ → Verdict
certificate_broken place = Refused 11 0

-- the verdict on certificate bytes, for a valid job: they are picks, then cells
unfoldable pub verdict_on_certificate : Knapsack → Job → List ℕ → Verdict
verdict_on_certificate k j b =
    with_section b (read_section (Some (labels j)) b 0) certificate_broken λ picks p₁.
    with_section b (read_section (Some (certificate_cells k j)) b p₁) certificate_broken λ cells p₂.
    at_end b p₂ certificate_broken (verdict_on_cells k j picks cells)

-- refused with the number, or where it is 0 what comes next
unfoldable pub unless_refused : ℕ → Verdict → Verdict
unless_refused zero next = next
unless_refused (suc r) next = Refused (suc r) 0

-- the knapsack that a kind number has certificates for: those of kinds 1 to 3
unfoldable pub certified_knapsack : ℕ → Option Knapsack
certified_knapsack zero = none
certified_knapsack (suc k) = get_elem? (once ∷ limited ∷ free ∷ []) k

-- a job that has certificates: it is of the knapsack k, and none of refusals 2 to 5 applies
pub record HasCertificates (k : Knapsack) (j : Job) : Type 0 where
  pub of_knapsack : certified_knapsack j.kind_number ≡ some k
  pub not_refused : job_refusal (rules_of (packing k)) j 0 ≡ 0

-- by the knapsack: 2 where there is none; 3 to 5, or else the verdict on the certificate
unfoldable pub verdict_for : Option Knapsack → Job → List ℕ → Verdict
verdict_for none j b = Refused 2 0
verdict_for (some k) j b = unless_refused (job_refusal (rules_of (packing k)) j 0) (verdict_on_certificate k j b)

-- by what the job bytes are read as; the place of a break isn't told
unfoldable pub verdict_on_job : JobRead → List ℕ → Verdict
verdict_on_job (unreadable place) b = Refused 1 0
verdict_on_job (readable j) b = verdict_for (certified_knapsack j.kind_number) j b

-- the verdict on job bytes and certificate bytes
unfoldable pub verdict_of : List ℕ → List ℕ → Verdict
verdict_of jobB cert_b = verdict_on_job (read_job jobB) cert_b

-- the checker's promise: its verdict v says what `verdict_of` says
unfoldable pub Checked : List ℕ → List ℕ → Verdict → Type 0
Checked jobB cert_b v = verdict_numbers v ≡ verdict_numbers (verdict_of jobB cert_b)
