-- What the checker has seen of a certificate that it accepts, both ways; and how it reads the bytes.
-- Assumes nothing.
use mathlib.Core.Path.{◌∙◌, ◌≡◌, ap, ap₂, refl, subst, sym}
use mathlib.Core.Option.{Option, none, some}
use Prim.Native.Nat.{◌*◌, ◌+◌, ◌<◌, ◌≤◌, suc, zero, ℕ}
use native.Mathlib.Omega.{arith}
use mathlib.Core.Bool.{Bool, false, true}
use mathlib.Core.List.{List, [], ◌++◌, append-nil}
use lib.Dec.{ltb}
use lib.ListN.{length}
use borrow.Author.Tests.{eq-eqb, eqb-true}
use Rattle.meaning.specs.Judges.{Verdict}
use Rattle.meaning.specs.Judges.{Accepted, Refused}
use Rattle.std.specs.Prelude.{Some, None, Ok, Err}
use Rattle.meaning.specs.Lists.{if, total}
use Rattle.meaning.specs.Job.{Job, Knapsack, labels, packing}
use Rattle.meaning.specs.Refusals.{job_refusal, rules_of}
use Rattle.meaning.specs.Bytes.{Needed, Section, at_end, is_needed, number_at, numbers_in, between, read_section}
use Rattle.meaning.specs.Bytes.{readable, section_bytes, unreadable, whole_section, with_section}
use Rattle.meaning.specs.Certificates.{HasCertificates, certificate_broken, certificate_cells, certified_knapsack, low_cell, misvalued, over_picked}
use Rattle.meaning.specs.Certificates.{overweight, unless_found, unless_refused, verdict_for, verdict_on_cells, verdict_on_certificate, verdict_on_job}
use Rattle.meaning.specs.Demands.{list_in}
use Rattle.meaning.proofs.Numbers.{section_whole, SectionFound, section_found, section_numbers}
use Rattle.meaning.proofs.Sections.{All32, Stands, end_back, read_on_lem, section_next, stands_first, limit32}

-- ---- past each refusal to what was accepted

refused≢accepted : {r p v : ℕ} → Refused r p ≡ Accepted v → ⊥
refused≢accepted e = let z : ◌≡◌ {A = ℕ} 0 1 = cc in omega arith

past_found : (o : Option ℕ) (r : ℕ) (next : Verdict) (v : ℕ) → unless_found o r next ≡ Accepted v → (o ≡ none) × (next ≡ Accepted v)
unfolding unless_found
past_found (some p) r next v e = absurd (refused≢accepted e)
past_found none r next v e = (refl, e)

past_test : (b : Bool) (r : ℕ) (next : Verdict) (v : ℕ) → if b (Refused r 0) next ≡ Accepted v → (b ≡ false) × (next ≡ Accepted v)
unfolding if
past_test true r next v e = absurd (refused≢accepted e)
past_test false r next v e = (refl, e)

past_refusal : (r : ℕ) (next : Verdict) (v : ℕ) → unless_refused r next ≡ Accepted v → (r ≡ 0) × (next ≡ Accepted v)
unfolding unless_refused
past_refusal zero next v e = (refl, e)
past_refusal (suc r) next v e = absurd (refused≢accepted e)

-- ---- picks and cells

-- what the checker has seen of picks and cells that it accepts with v
pub record Seen (k : Knapsack) (j : Job) (picks cells : List ℕ) (v : ℕ) : Type 0 where
  pub within_counts : over_picked k j picks ≡ none
  pub light : overweight j picks ≡ false
  pub rule_kept : low_cell k j cells ≡ none
  pub same : misvalued k j picks cells ≡ false
  pub value : total j.values picks ≡ v

-- accepted, so all this was seen
pub was_seen : (k : Knapsack) (j : Job) (picks cells : List ℕ) (v : ℕ) → verdict_on_cells k j picks cells ≡ Accepted v → Seen k j picks cells v
unfolding verdict_on_cells
was_seen k j picks cells v e =
    let (a, e₁) = past_found _ _ _ v e in
    let (b, e₂) = past_test _ _ _ v e₁ in
    let (c, e₃) = past_found _ _ _ v e₂ in
    let (d, e₄) = past_test _ _ _ v e₃ in
    record { within_counts = a; light = b; rule_kept = c; same = d; value = cc }

-- and back
pub accepts_seen : (k : Knapsack) (j : Job) (picks cells : List ℕ) (v : ℕ) → Seen k j picks cells v → verdict_on_cells k j picks cells ≡ Accepted v
unfolding verdict_on_cells unless_found if
accepts_seen k j picks cells v s = rw (s.within_counts, s.light, s.rule_kept, s.same) (ap Accepted s.value)

-- ---- the bytes

past_section : (b : List ℕ) (o : Section) (read_on : List ℕ → ℕ → Verdict) (v : ℕ) → with_section b o certificate_broken read_on ≡ Accepted v
    → (start count next : ℕ) × (o ≡ Ok (start, count, next)) × (read_on (numbers_in (between b start next)) next ≡ Accepted v)
unfolding with_section certificate_broken
past_section b (Err p) read_on v e = absurd (refused≢accepted e)
past_section b (Ok (s, c, n)) read_on v e = (s, c, n, refl, e)

past_end : (b : List ℕ) (p : ℕ) (next : Verdict) (v : ℕ) → at_end b p certificate_broken next ≡ Accepted v → next ≡ Accepted v
unfolding at_end certificate_broken
past_end b p next v e = (past_test (ltb p (length b)) 11 next v e).1

-- what was read and seen of certificate bytes that are accepted: their list, of n numbers, and some cells
pub record ReadAndSeen (k : Knapsack) (j : Job) (cert_b : List ℕ) (v : ℕ) : Type 0 where
  pub cells : List ℕ
  pub long : length (list_in cert_b) ≡ labels j
  pub judged : Seen k j (list_in cert_b) cells v

-- the count that was asked for was found
pub needed_count : (n c : ℕ) → is_needed (Some n) c ≡ true → c ≡ n
unfolding is_needed
needed_count n c e = eqb-true c n e

-- whatever count is asked for, it is the same section
section_any : (needed : Needed) (b : List ℕ) (p start count next : ℕ) → SectionFound needed b p start count next
    → read_section None b p ≡ Ok (start, count, next)
unfolding is_needed whole_section
section_any needed b p start count next s =
    let within : p + 4 + 4 * number_at b p ≤ length b = omega (arith, s.starts, s.found, s.ends, s.inside) in
    let end : p + 4 + 4 * number_at b p ≡ next = omega (arith, s.starts, s.found, s.ends) in
    section_whole None b p (omega arith) refl within
    ∙ ap₂ (λ (x y : ℕ). Ok (x, number_at b p, y)) (sym s.starts) end ∙ ap (λ (x : ℕ). Ok (start, x, next)) (sym s.found)

list_read : (b : List ℕ) (start count next : ℕ) → read_section None b 0 ≡ Ok (start, count, next) → list_in b ≡ numbers_in (between b start next)
unfolding list_in with_section
list_read b start count next e = rw e

-- certificate bytes that are accepted were read, and seen so
pub read_and_seen : (k : Knapsack) (j : Job) (cert_b : List ℕ) (v : ℕ) → verdict_on_certificate k j cert_b ≡ Accepted v → ReadAndSeen k j cert_b v
unfolding verdict_on_certificate
read_and_seen k j b v e =
    let (s, c, n, e₁, e₂) = past_section b _ _ v e in
    let (s', c', n', e₃, e₄) = past_section b _ _ v e₂ in
    let r : SectionFound (Some (labels j)) b 0 s c n = section_found (Some (labels j)) b 0 s c n e₁ in
    let list : list_in b ≡ numbers_in (between b s n) = list_read b s c n (section_any (Some (labels j)) b 0 s c n r) in
    let cells : List ℕ = numbers_in (between b s' n') in
    record {
      cells = cells;
      long = ap length list ∙ section_numbers b s c n r.ends r.inside ∙ needed_count (labels j) c r.right;
      judged =
          subst (λ (p : List ℕ). Seen k j p cells v) (sym list)
          (was_seen k j (numbers_in (between b s n)) cells v (past_end b n' (verdict_on_cells k j (numbers_in (between b s n)) cells) v e₄));
    }

-- ---- picks and cells that were written

-- certificate bytes of picks and cells that are of the needed counts and of 32 bits are read as those
pub verdict_written : (k : Knapsack) (j : Job) (picks cells : List ℕ) → length picks ≡ labels j → length cells ≡ certificate_cells k j
    → labels j < limit32 → certificate_cells k j < limit32 → All32 picks → All32 cells
    → verdict_on_certificate k j (section_bytes picks ++ section_bytes cells) ≡ verdict_on_cells k j picks cells
unfolding verdict_on_certificate is_needed
verdict_written k j picks cells lp lc np nc sp sc =
    let b : List ℕ = section_bytes picks ++ section_bytes cells in
    let one : Stands b 0 (section_bytes picks ++ (section_bytes cells ++ [])) =
    subst (λ (l : List ℕ). Stands b 0 l) (simp append-nil) (stands_first b) in
    let two = section_next b 0 picks _ one in
    let three = section_next b _ cells [] two in
    read_on_lem b 0 picks _ one (subst (λ (n : ℕ). n < limit32) (sym lp) np) (Some (labels j)) certificate_broken _ sp
    (eq-eqb (length picks) (labels j) lp)
    ∙ read_on_lem b _ cells [] two (subst (λ (n : ℕ). n < limit32) (sym lc) nc) (Some (certificate_cells k j)) certificate_broken _ sc
    (eq-eqb (length cells) (certificate_cells k j) lc)
    ∙ end_back b _ certificate_broken (verdict_on_cells k j picks cells) three

-- and their list is the picks
pub list_written : (picks cells : List ℕ) → length picks < limit32 → All32 picks → list_in (section_bytes picks ++ cells) ≡ picks
unfolding list_in is_needed
list_written picks cells many small =
    read_on_lem (section_bytes picks ++ cells) 0 picks cells (stands_first (section_bytes picks ++ cells)) many None _ _ small refl

-- ---- from the job bytes

-- no certificate is accepted for job bytes that can't be read
pub on_unreadable : (place : ℕ) (cert_b : List ℕ) (v : ℕ) → verdict_on_job (unreadable place) cert_b ≡ Accepted v → ⊥
unfolding verdict_on_job
on_unreadable place cert_b v e = refused≢accepted e

-- accepted for a job: it has certificates, and this one is accepted
pub record JudgedAs (j : Job) (cert_b : List ℕ) (v : ℕ) : Type 0 where
  pub knapsack : Knapsack
  pub has_certificates : HasCertificates knapsack j
  pub accepted : verdict_on_certificate knapsack j cert_b ≡ Accepted v

pub on_readable : (j : Job) (cert_b : List ℕ) (v : ℕ) → verdict_on_job (readable j) cert_b ≡ Accepted v → JudgedAs j cert_b v
unfolding verdict_on_job verdict_for
on_readable j cert_b v e = go (certified_knapsack j.kind_number) refl e
  where
    go : (o : Option Knapsack) → certified_knapsack j.kind_number ≡ o → verdict_for o j cert_b ≡ Accepted v → JudgedAs j cert_b v
    go none f h = absurd (refused≢accepted h)
    go (some k) f h =
        let (ok, accepted) = past_refusal (job_refusal (rules_of (packing k)) j 0) (verdict_on_certificate k j cert_b) v h in
        record { knapsack = k; has_certificates = record { of_knapsack = f; not_refused = ok }; accepted = accepted }

-- the verdict on a job that has certificates is that on the certificate
pub readable_on : (k : Knapsack) (j : Job) (cert_b : List ℕ) → HasCertificates k j → verdict_on_job (readable j) cert_b ≡ verdict_on_certificate k j cert_b
unfolding verdict_on_job verdict_for unless_refused
readable_on k j cert_b h = rw (h.of_knapsack, h.not_refused)
