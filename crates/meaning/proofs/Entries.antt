-- The checker's two C entries: 0 means accepted, and the other entry's number is then the value.
-- Assumes nothing.
use mathlib.Core.Path.{◌≡◌, refl, sym, ap, ◌∙◌}
use mathlib.Core.Option.{Option, none, some}
use Prim.Native.Nat.{ℕ, zero, suc}
use native.Mathlib.Nat.{add-zero}
use native.Mathlib.Omega.{arith}
use mathlib.Core.Bool.{Bool, true, false}
use mathlib.Core.List.{List}
use lib.Dec.{ltb}
use lib.ListN.{length}
use Rattle.meaning.specs.Judges.{Verdict}
use Rattle.meaning.specs.Judges.{Accepted, Refused}
use Rattle.std.specs.Prelude.{Ok, Err}
use Rattle.meaning.specs.Lists.{if}
use Rattle.meaning.specs.Job.{Job, Knapsack}
use Rattle.meaning.specs.Bytes.{Section, JobRead, at_end, read_job, readable, unreadable, with_section}
use Rattle.meaning.specs.Answers.{verdict_numbers}
use Rattle.meaning.specs.Certificates.{Checked, certificate_broken, certified_knapsack, unless_found, unless_refused}
use Rattle.meaning.specs.Certificates.{verdict_for, verdict_of, verdict_on_cells, verdict_on_certificate, verdict_on_job}
use Rattle.meaning.specs.Host.{refusal_number, value_or_place}

-- ---- no verdict refuses with 0

data Numbered : Verdict → Type 0 where
  accepts : (v : ℕ) → Numbered (Accepted v)
  refuses : (r place : ℕ) → Numbered (Refused (suc r) place)

on_found : (o : Option ℕ) (r : ℕ) (next : Verdict) → Numbered next → Numbered (unless_found o (suc r) next)
unfolding unless_found
on_found none r next h = h
on_found (some place) r next h = refuses r place

on_test : (b : Bool) (r : ℕ) (next : Verdict) → Numbered next → Numbered (if b (Refused (suc r) 0) next)
unfolding if
on_test true r next h = refuses r 0
on_test false r next h = h

on_refusal : (r : ℕ) (next : Verdict) → Numbered next → Numbered (unless_refused r next)
unfolding unless_refused
on_refusal zero next h = h
on_refusal (suc r) next h = refuses r 0

on_section : (b : List ℕ) (s : Section) (read_on : List ℕ → ℕ → Verdict) → ((ns : List ℕ) (p : ℕ) → Numbered (read_on ns p))
    → Numbered (with_section b s certificate_broken read_on)
unfolding with_section certificate_broken
on_section b (Ok (start, count, next)) read_on h = h _ next
on_section b (Err place) read_on h = refuses 10 0

on_end : (b : List ℕ) (p : ℕ) (next : Verdict) → Numbered next → Numbered (at_end b p certificate_broken next)
unfolding at_end certificate_broken
on_end b p next h = on_test (ltb p (length b)) 10 next h

on_cells : (k : Knapsack) (j : Job) (picks cells : List ℕ) → Numbered (verdict_on_cells k j picks cells)
unfolding verdict_on_cells
on_cells k j picks cells = on_found _ 11 _ (on_test _ 12 _ (on_found _ 13 _ (on_test _ 14 _ (accepts _))))

on_certificate : (k : Knapsack) (j : Job) (b : List ℕ) → Numbered (verdict_on_certificate k j b)
unfolding verdict_on_certificate
on_certificate k j b = on_section b _ _ (λ picks p. on_section b _ _ (λ cells q. on_end b q _ (on_cells k j picks cells)))

on_knapsack : (o : Option Knapsack) (j : Job) (b : List ℕ) → Numbered (verdict_for o j b)
unfolding verdict_for
on_knapsack none j b = refuses 1 0
on_knapsack (some k) j b = on_refusal _ (verdict_on_certificate k j b) (on_certificate k j b)

on_job : (r : JobRead) (b : List ℕ) → Numbered (verdict_on_job r b)
unfolding verdict_on_job
on_job (unreadable place) b = refuses 0 0
on_job (readable j) b = on_knapsack (certified_knapsack j.kind_number) j b

-- ---- the two entries

-- accepted, with the value that the second entry gives
pub record AcceptedBy (jobB cert_b : List ℕ) : Type 0 where
  pub value : ℕ
  pub accepted : Checked jobB cert_b (Accepted value)
  pub given : value_or_place (verdict_of jobB cert_b) ≡ value

by_numbers : (jobB cert_b : List ℕ) (v : Verdict) → Numbered v → verdict_of jobB cert_b ≡ v → refusal_number v ≡ 0 → AcceptedBy jobB cert_b
unfolding Checked refusal_number value_or_place verdict_numbers
by_numbers jobB cert_b _ (accepts v) e h = record { value = v; accepted = ap verdict_numbers (sym e); given = ap value_or_place e ∙ add-zero v }
by_numbers jobB cert_b _ (refuses r place) e h = absurd (omega arith)

pub zero_is_accepted : (jobB cert_b : List ℕ) → refusal_number (verdict_of jobB cert_b) ≡ 0 → AcceptedBy jobB cert_b
unfolding verdict_of
zero_is_accepted jobB cert_b h = by_numbers jobB cert_b (verdict_of jobB cert_b) (on_job (read_job jobB) cert_b) refl h
