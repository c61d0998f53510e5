-- The certificate writer: its answer, and what it leaves in the lent byte slice.
-- Assumes nothing.
use Rattle.std.specs.Prelude.{◌≡◌, ℕ, zero, suc, ◌+◌, ◌*◌, Bool, ◌&&◌, not, List, [], ◌++◌, leb, length, take}
use Rattle.std.proofs.Math.Option.{Option, none, some}
use Rattle.meaning.specs.Reports.{Written}
use Rattle.meaning.specs.Reports.{Bytes, Refused}
use Rattle.meaning.specs.Lists.{if}
use Rattle.meaning.specs.Slices.{Holds}
use Rattle.meaning.specs.Job.{Job, labels, Knapsack, packing}
use Rattle.meaning.specs.Refusals.{job_refusal, rules_of}
use Rattle.meaning.specs.Bytes.{JobRead, unreadable, readable, read_job, section_bytes}
use Rattle.meaning.specs.Answers.{written_numbers}
use Rattle.meaning.specs.Certificates.{certificate_cells, certified_knapsack}

-- the certificate of these picks and cells: the needed places of each, copied and not judged
unfoldable pub certificate : Knapsack → Job → List ℕ → List ℕ → List ℕ
certificate k j picks cells = section_bytes (take (labels j) picks) ++ section_bytes (take (certificate_cells k j) cells)

-- how many bytes that is: 8 + 4n + 4(n+1)(C+1); in kind 3, 8 + 4n + 4(C+1)
unfoldable pub bytes_needed : Knapsack → Job → ℕ
bytes_needed k j = 8 + 4 * labels j + 4 * certificate_cells k j

-- none of the three slices is too short
unfoldable pub slices_fit : Knapsack → Job → List ℕ → List ℕ → List ℕ → Bool
slices_fit k j picks cells out =
    leb (labels j) (length picks) && leb (certificate_cells k j) (length cells) && leb (bytes_needed k j) (length out)

-- refusals 3 to 6, the lowest that applies; 0 for none
unfoldable pub writer_refusal : Knapsack → Job → List ℕ → List ℕ → List ℕ → ℕ
writer_refusal k j picks cells out = job_refusal (rules_of (packing k)) j (if (not (slices_fit k j picks cells out)) 6 0)

-- the answer, by the refusal number: n bytes are needed
unfoldable pub written_as : ℕ → ℕ → Written
written_as zero n = Bytes n
written_as (suc r) n = Refused (suc r)

-- the bytes that are new in the slice: the certificate, or none
unfoldable pub new_bytes : ℕ → List ℕ → List ℕ
new_bytes zero cert_b = cert_b
new_bytes (suc r) cert_b = []

-- the answer a and what is left in the byte slice, by the refusal number; past the new bytes stands what stood there
pub record WritesAs (r n : ℕ) (cert_b before : List ℕ) (a : Written) (after : List ℕ) : Type 0 where
  pub numbers : written_numbers a ≡ written_numbers (written_as r n)
  pub leaves : Holds (new_bytes r cert_b) before after

-- by the knapsack: 2 where there are no certificates; or else 3 to 6, or the certificate
unfoldable pub WritesFor : Option Knapsack → Job → List ℕ → List ℕ → List ℕ → Written → List ℕ → Type 0
WritesFor none j picks cells before a after = WritesAs 2 0 [] before a after
WritesFor (some k) j picks cells before a after =
    WritesAs (writer_refusal k j picks cells before) (bytes_needed k j) (certificate k j picks cells) before a after

-- the writer's promise on a job of lists: the answer a, and `after` in the byte slice
unfoldable pub Writes : Job → List ℕ → List ℕ → List ℕ → Written → List ℕ → Type 0
Writes j picks cells before a after = WritesFor (certified_knapsack j.kind_number) j picks cells before a after

-- job bytes, by what they are read as: refusal 1, the place of a break not told; or the job that they hold
unfoldable pub WritesRead : JobRead → List ℕ → List ℕ → List ℕ → Written → List ℕ → Type 0
WritesRead (unreadable place) picks cells before a after = WritesAs 1 0 [] before a after
WritesRead (readable j) picks cells before a after = Writes j picks cells before a after

-- the writer's promise on job bytes
unfoldable pub WritesBytes : List ℕ → List ℕ → List ℕ → List ℕ → Written → List ℕ → Type 0
WritesBytes bytes picks cells before a after = WritesRead (read_job bytes) picks cells before a after
