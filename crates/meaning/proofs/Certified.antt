-- The checker meets the third demand, both halves.
-- Assumes nothing.
use mathlib.Core.Path.{◌∙◌, ◌≡◌, ap, refl, subst, sym}
use mathlib.Core.Option.{Option, some-injective, none, some}
use Prim.Native.Nat.{◌%◌, ◌/◌, ◌<◌, suc, ℕ, zero}
use native.Mathlib.Nat.{mod-lt, le_trans}
use native.Mathlib.Omega.{arith}
use mathlib.Core.Bool.{not, true}
use mathlib.Core.List.{List, [], ◌++◌, ◌∷◌}
use lib.Dec.{T, lit<, ltb}
use lib.ListN.{length}
use mir.Facts.{and_yes, yes_and}
use borrow.Author.Tests.{eq-eqb, eqb-true, le-ltb, ltb-false, lt-ltb, not-false}
use Rattle.meaning.specs.Judges.{Verdict}
use Rattle.meaning.specs.Judges.{Accepted}
use Rattle.meaning.specs.Lists.{at, every, total}
use Rattle.meaning.specs.Job.{Job, Knapsack, once, limited, free, packing, labels, kind_of, all_kinds}
use Rattle.meaning.specs.Bounds.{most_budget}
use Rattle.meaning.specs.Refusals.{rules_of}
use Rattle.meaning.specs.Bytes.{JobRead, bytes_of, bytes_of_all, read_job, readable, section_bytes, unreadable}
use Rattle.meaning.specs.Knapsacks.{Best, Fits}
use Rattle.meaning.specs.Answers.{verdict_numbers}
use Rattle.meaning.specs.Certificates.{HasCertificates, cell_at, certificate_cells, certified_knapsack, misvalued, most_picks, over_picked}
use Rattle.meaning.specs.Certificates.{overweight, verdict_of, verdict_on_job, Checked}
use Rattle.meaning.specs.Demands.{AcceptedWith, Accepts, BestList, Demand3, Sound, ValidJob, are_bytes, list_in}
use Rattle.meaning.proofs.Totals.{total_part}
use Rattle.meaning.proofs.OneOfEach.{best_value_unique}
use Rattle.meaning.proofs.Unique.{verdict_numbers_unique}
use Rattle.meaning.proofs.Sections.{All32, limit32}
use Rattle.meaning.proofs.Valid.{is_valid, Valid, certificate_32, labels_32, has_passed}
use Rattle.meaning.proofs.Covering.{CountsShown, Exact, counts_shown, covered, exact_corner, exact_keeps, fits_often, rule_in, rule_out}
use Rattle.meaning.proofs.ExactCells.{cells_exact, exact_32, exact_long, exact_cells}
use Rattle.meaning.proofs.Searches.{first_none, none_first}
use Rattle.meaning.proofs.Verdicts.{JudgedAs, ReadAndSeen, Seen, accepts_seen, list_written}
use Rattle.meaning.proofs.Verdicts.{on_readable, on_unreadable, read_and_seen, readable_on, verdict_written}

-- ---- a job that a certificate may be for

none≢some : {k : Knapsack} → ◌≡◌ {A = Option Knapsack} none (some k) → ⊥
none≢some e = let z : ◌≡◌ {A = ℕ} 0 1 = cc in omega arith

-- its kind is a knapsack
pub certified_kind : (n : ℕ) (k : Knapsack) → certified_knapsack n ≡ some k → kind_of n ≡ some (packing k)
unfolding certified_knapsack kind_of all_kinds
certified_kind zero k e = absurd (none≢some e)
certified_kind (suc zero) k e = ap (λ (s : Knapsack). some (packing s)) (some-injective once k e)
certified_kind (suc (suc zero)) k e = ap (λ (s : Knapsack). some (packing s)) (some-injective limited k e)
certified_kind (suc (suc (suc zero))) k e = ap (λ (s : Knapsack). some (packing s)) (some-injective free k e)
certified_kind (suc (suc (suc (suc n)))) k e = absurd (none≢some e)

-- job bytes are of one knapsack
pub one_knapsack : {jobB : List ℕ} {j j' : Job} (v : ValidJob jobB j) (v' : ValidJob jobB j') → v.knapsack ≡ v'.knapsack
one_knapsack {jobB} {j} {j'} v v' =
    let same : j ≡ j' = cc (v.reads, v'.reads) in
    some-injective v.knapsack v'.knapsack
    (sym v.has_certificates.of_knapsack ∙ ap (λ (x : Job). certified_knapsack x.kind_number) same ∙ v'.has_certificates.of_knapsack)

-- it is valid
pub certified_valid : {k : Knapsack} {j : Job} → HasCertificates k j → Valid k j
certified_valid {k} {j} h = is_valid k j 0 (has_passed (rules_of (packing k)) j 0 h.not_refused)

-- ---- accepted picks are best, and best picks with exact cells are accepted, once over the allowed counts

module _ (k : Knapsack) (j : Job) (v : Valid k j) (picks cells : List ℕ) where
  abbrev shown : CountsShown k j
  shown = counts_shown k j v

  -- first half: accepted picks are best
  pub seen_best : (worth : ℕ) → length picks ≡ labels j → Seen k j picks cells worth → Best k j (labels j) j.budget picks
  unfolding over_picked overweight misvalued
  seen_best worth long s =
      let fits : Fits k j (labels j) j.budget picks = record {
        selection = record {
          one_each = long;
          allowed = λ m h.
              shown.allowed m (at picks m)
              (ltb-false _ _ (first_none (λ i. ltb (most_picks k j i) (at picks i)) (labels j) s.within_counts m h));
        };
        weight = omega (arith, ltb-false, s.light);
      } in
      covered k j shown cells (rule_in j cells k s.rule_kept) picks fits (eqb-true _ _ (not-false _ s.same))

  -- second half: best picks with exact cells are accepted
  pub best_seen : Best k j (labels j) j.budget picks → Exact k j cells → Seen k j picks cells (total j.values picks)
  unfolding over_picked overweight misvalued
  best_seen best exact =
      let corner : cell_at k j cells (labels j) j.budget ≡ total j.values picks =
      best_value_unique (exact_corner k j cells exact) (record { picks = picks; best = best; value = refl }) in
      record {
        within_counts = none_first (λ i. ltb (most_picks k j i) (at picks i)) (labels j)
            (λ i h. le-ltb _ _ (shown.within i (at picks i) h (best.fits.selection.allowed i h)
            (le_trans (total_part j.weights picks i) best.fits.weight)));
        light = le-ltb j.budget (total j.weights picks) best.fits.weight;
        rule_kept = rule_out j cells k (exact_keeps k j v shown cells exact);
        same = ap not (eq-eqb (cell_at k j cells (labels j) j.budget) (total j.values picks) corner);
        value = refl;
      }

-- best picks fit 32 bits
pub picks_32 : (k : Knapsack) (j : Job) → Valid k j → (picks : List ℕ) → Best k j (labels j) j.budget picks → All32 picks
unfolding All32 most_budget
picks_32 k j v picks best m h =
    let m' : m < labels j = omega (arith, best.fits.selection.one_each) in
    omega (arith, fits_often v m (at picks m) m' (le_trans (total_part j.weights picks m) best.fits.weight))

-- ---- written as bytes

-- the certificate of best picks and exact cells is accepted for a valid job
pub accepted_written : (k : Knapsack) (j : Job) (picks cells : List ℕ) → HasCertificates k j
    → BestList k j picks → length cells ≡ certificate_cells k j → Exact k j cells
    → verdict_on_job (readable j) (section_bytes picks ++ section_bytes cells) ≡ Accepted (total j.values picks)
unfolding BestList
accepted_written k j picks cells has best long exact =
    let v : Valid k j = certified_valid has in
    readable_on k j (section_bytes picks ++ section_bytes cells) has
    ∙ verdict_written k j picks cells best.fits.selection.one_each long (labels_32 k j v) (certificate_32 k j v)
    (picks_32 k j v picks best) (exact_32 k j v cells long exact)
    ∙ accepts_seen k j picks cells (total j.values picks) (best_seen k j v picks cells best exact)

-- what is written is bytes
bytes_append : (xs ys : List ℕ) → T (are_bytes xs) → T (are_bytes ys) → T (are_bytes (xs ++ ys))
unfolding are_bytes every
bytes_append [] ys s t = t
bytes_append (x ∷ xs) ys s t =
    let (a, b) = and_yes (ltb x 256) (are_bytes xs) s in
    yes_and (ltb x 256) (are_bytes (xs ++ ys)) a (bytes_append xs ys b t)

number_bytes : (n : ℕ) → T (are_bytes (bytes_of n))
unfolding are_bytes every bytes_of
number_bytes n = simp (byte n, byte (n / 256), byte (n / 65_536), byte (n / 16_777_216)) tt
  where
    byte : (x : ℕ) → ltb (x % 256) 256 ≡ true
    byte x = lt-ltb (x % 256) 256 (mod-lt x (lit< tt))

all_bytes : (ns : List ℕ) → T (are_bytes (bytes_of_all ns))
unfolding are_bytes every bytes_of_all
all_bytes [] = tt
all_bytes (n ∷ ns) = bytes_append (bytes_of n) (bytes_of_all ns) (number_bytes n) (all_bytes ns)

-- so is a section
pub section_are_bytes : (ns : List ℕ) → T (are_bytes (section_bytes ns))
unfolding section_bytes
section_are_bytes ns = bytes_append (bytes_of (length ns)) (bytes_of_all ns) (number_bytes (length ns)) (all_bytes ns)

-- ---- the third demand

-- what the checker promises is one verdict
pub verdict_is : (jobB cert_b : List ℕ) (v : Verdict) → Checked jobB cert_b v → verdict_of jobB cert_b ≡ v
unfolding Checked
verdict_is jobB cert_b v checked = verdict_numbers_unique (verdict_of jobB cert_b) v (sym checked)

pub accepted_with : (jobB cert_b : List ℕ) (v : ℕ) → verdict_of jobB cert_b ≡ Accepted v → AcceptedWith Checked jobB cert_b v
unfolding Checked
accepted_with jobB cert_b v e = record { verdict = ap verdict_numbers (sym e); no_other = λ w checked. sym (verdict_is jobB cert_b w checked) ∙ e }

-- first half: accepted means that nothing within budget is worth more
accepted_best : (jobB cert_b : List ℕ) (v : ℕ) → verdict_of jobB cert_b ≡ Accepted v → Sound jobB cert_b v
unfolding verdict_of BestList
accepted_best jobB cert_b v e = go (read_job jobB) refl
  where
    go : (r : JobRead) → read_job jobB ≡ r → Sound jobB cert_b v
    go (unreadable place) f = absurd (on_unreadable place cert_b v (ap (λ (x : JobRead). verdict_on_job x cert_b) (sym f) ∙ e))
    go (readable j) f =
        let m : JudgedAs j cert_b v = on_readable j cert_b v (ap (λ (x : JobRead). verdict_on_job x cert_b) (sym f) ∙ e) in
        let k = m.knapsack in
        let s : ReadAndSeen k j cert_b v = read_and_seen k j cert_b v m.accepted in
        record {
          job = j;
          valid_job = record { reads = f; knapsack = k; has_certificates = m.has_certificates };
          best = seen_best k j (certified_valid m.has_certificates) (list_in cert_b) s.cells v s.long s.judged;
          value = s.judged.value;
        }

-- second half: for a valid job and any list, some certificate with that list is accepted exactly when the list is allowed, fits and is best
module _ (jobB : List ℕ) (j : Job) (job-ok : ValidJob jobB j) (p : List ℕ) where
  abbrev k : Knapsack
  k = job-ok.knapsack

  valid_here : Valid k j
  valid_here = certified_valid job-ok.has_certificates

  on_job : (cert_b : List ℕ) → verdict_of jobB cert_b ≡ verdict_on_job (readable j) cert_b
  unfolding verdict_of
  on_job cert_b = ap (λ (r : JobRead). verdict_on_job r cert_b) job-ok.reads

  only_when : Accepts Checked jobB p → BestList k j p
  unfolding BestList
  only_when a =
      let accepted = sym (on_job a.cert_b) ∙ verdict_is jobB a.cert_b (Accepted a.value) a.accepted.verdict in
      let judged = sym (readable_on k j a.cert_b job-ok.has_certificates) ∙ accepted in
      let s : ReadAndSeen k j a.cert_b a.value = read_and_seen k j a.cert_b a.value judged in
      subst (λ (q : List ℕ). Best k j (labels j) j.budget q) a.with_list
      (seen_best k j valid_here (list_in a.cert_b) s.cells a.value s.long s.judged)

  whenever : BestList k j p → Accepts Checked jobB p
  unfolding BestList
  whenever best =
      let shown : CountsShown k j = counts_shown k j valid_here in
      let cells : List ℕ = exact_cells k j shown in
      let few : length p < limit32 = subst (λ (n : ℕ). n < limit32) (sym best.fits.selection.one_each) (labels_32 k j valid_here) in
      record {
        cert_b = section_bytes p ++ section_bytes cells;
        bytes = bytes_append (section_bytes p) (section_bytes cells) (section_are_bytes p) (section_are_bytes cells);
        with_list = list_written p (section_bytes cells) few (picks_32 k j valid_here p best);
        value = total j.values p;
        accepted =
            accepted_with jobB (section_bytes p ++ section_bytes cells) (total j.values p)
            (on_job (section_bytes p ++ section_bytes cells)
            ∙ accepted_written k j p cells job-ok.has_certificates best (exact_long k j shown) (cells_exact k j shown));
      }

-- the checker's promise meets both
pub meets_demand_3 : Demand3 Checked
meets_demand_3 = record {
  accepted_is_best = λ jobB cert_b v checked. accepted_best jobB cert_b v (verdict_is jobB cert_b (Accepted v) checked);
  exactly_when_best = λ jobB j ok p. (only_when jobB j ok p, whenever jobB j ok p);
}
