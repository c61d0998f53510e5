-- Job bytes, read section by section: what is known where reading breaks, and where it comes to the end.
-- Assumes nothing.
use mathlib.Core.Path.{◌≡◌, sym, ap, ◌∙◌}
use Prim.Native.Nat.{ℕ, ◌-◌, ◌≤◌, ◌<◌}
use native.Mathlib.Omega.{arith}
use mathlib.Core.List.{List, [], ◌∷◌}
use lib.ListN.{length}
use borrow.Author.Tests.{lt-ltb, le-ltb}
use Rattle.std.specs.Prelude.{Result, Some, None, Ok, Err}
use Rattle.meaning.specs.Lists.{at, if}
use Rattle.meaning.specs.Job.{budget_count, job_of}
use Rattle.meaning.specs.Bytes.{JobRead, Needed, Section, at_end, between, numbers_in, read_job, read_section, readable, unreadable, with_section}
use Rattle.meaning.proofs.Budgets.{same_budgets, two_budgets}
use Rattle.meaning.proofs.Numbers.{section_found}
use Rattle.numbers.specs.declared.Job.{Job}
use Rattle.numbers.specs.Lists.{job_in}
use Rattle.numbers.specs.TwoSlices.{job_from}
use Rattle.numbers.specs.Sections.{part_of, section_in}
use Rattle.numbers.proofs.Parts.{reads_on, reads_no_more}
use Rattle.requests.specs.declared.Parts.{Parts}
use Rattle.requests.specs.Reading.{PartsOf, ReadAs, ReadInParts, Within, broken_of, bytes_at}

-- ---- one section

-- where the section that was read breaks, the job does
pub breaks : (b : List ℕ) {section found : Section} {place : ℕ} {r : Result Parts ℕ} → found ≡ section → found ≡ Err place
    → (section ≡ Err place → read_job b ≡ unreadable place) → r ≡ broken_of found → ReadInParts b r
unfolding ReadInParts broken_of
breaks b e f broke g = rw (g, f) (broke (sym e ∙ f))

-- the part of a section
pub within : (needed : Needed) (b : List ℕ) (p start count next : ℕ) → read_section needed b p ≡ Ok (start, count, next)
    → Within b (record { start = start; end = next })
within needed b p start count next e =
    let f = section_found needed b p start count next e in
    record { ordered = omega (arith, f.ends); inside = f.inside }

-- ---- all five sections: what is read after so many of them

module _ (b : List ℕ) where
  -- the section at place p is whole: its part of the bytes, and the place after it
  abbrev pub Whole : Needed → ℕ → List ℕ → ℕ → Type 0
  Whole needed p part next = section_in needed b p ≡ Ok (part, next)

  -- the same by the places of its part
  pub whole : (needed : Needed) (p : ℕ) {start count next : ℕ} → read_section needed b p ≡ Ok (start, count, next)
      → Whole needed p (between b start next) next
  unfolding section_in
  whole needed p e = ap (part_of b) e

  -- or where it breaks
  pub cut : (needed : Needed) (p : ℕ) {place : ℕ} → read_section needed b p ≡ Err place → section_in needed b p ≡ Err place
  unfolding section_in
  cut needed p e = ap (part_of b) e

  abbrev after_copies : ℕ → List ℕ → List ℕ → List ℕ → List ℕ → ℕ → JobRead
  after_copies kind budgets weights values copies p = at_end b p unreadable (readable (job_of kind budgets weights values copies))

  abbrev after_values : ℕ → List ℕ → List ℕ → List ℕ → ℕ → JobRead
  after_values kind budgets weights values p = with_section b (read_section None b p) unreadable (after_copies kind budgets weights values)

  abbrev after_weights : ℕ → List ℕ → List ℕ → ℕ → JobRead
  after_weights kind budgets weights p = with_section b (read_section None b p) unreadable (after_values kind budgets weights)

  abbrev after_budgets : ℕ → List ℕ → ℕ → JobRead
  after_budgets kind budgets p = with_section b (read_section None b p) unreadable (after_weights kind budgets)

  abbrev after_kinds : List ℕ → ℕ → JobRead
  after_kinds kinds p = with_section b (read_section (Some (budget_count (at kinds 0))) b p) unreadable (after_budgets (at kinds 0))

  pub broken_1 : {place : ℕ} → section_in (Some 1) b 0 ≡ Err place → read_job b ≡ unreadable place
  unfolding read_job
  broken_1 e = reads_no_more b unreadable after_kinds (Some 1) 0 e

  module _ {kinds : List ℕ} {p₁ : ℕ} (e₁ : Whole (Some 1) 0 kinds p₁) where
    so_far_1 : read_job b ≡ after_kinds (numbers_in kinds) p₁
    unfolding read_job
    so_far_1 = reads_on b unreadable after_kinds (Some 1) 0 e₁

    -- by the number of its kind it has so many budgets
    module _ {kind many : ℕ} (k : kind ≡ at (numbers_in kinds) 0) (m : many ≡ budget_count kind) where
      so_far_kind : read_job b ≡ with_section b (read_section (Some many) b p₁) unreadable (after_budgets kind)
      so_far_kind = so_far_1 ∙ rw (m, k)

      pub broken_2 : {place : ℕ} → section_in (Some many) b p₁ ≡ Err place → read_job b ≡ unreadable place
      broken_2 e = so_far_kind ∙ reads_no_more b unreadable (after_budgets kind) (Some many) p₁ e

      module _ {budgets : List ℕ} {p₂ : ℕ} (e₂ : Whole (Some many) p₁ budgets p₂) where
        so_far_2 : read_job b ≡ after_budgets kind (numbers_in budgets) p₂
        so_far_2 = so_far_kind ∙ reads_on b unreadable (after_budgets kind) (Some many) p₁ e₂

        pub broken_3 : {place : ℕ} → section_in None b p₂ ≡ Err place → read_job b ≡ unreadable place
        broken_3 e = so_far_2 ∙ reads_no_more b unreadable (after_weights kind (numbers_in budgets)) None p₂ e

        module _ {weights : List ℕ} {p₃ : ℕ} (e₃ : Whole None p₂ weights p₃) where
          so_far_3 : read_job b ≡ after_weights kind (numbers_in budgets) (numbers_in weights) p₃
          so_far_3 = so_far_2 ∙ reads_on b unreadable (after_weights kind (numbers_in budgets)) None p₂ e₃

          abbrev with_values : List ℕ → ℕ → JobRead
          with_values = after_values kind (numbers_in budgets) (numbers_in weights)

          pub broken_4 : {place : ℕ} → section_in None b p₃ ≡ Err place → read_job b ≡ unreadable place
          broken_4 e = so_far_3 ∙ reads_no_more b unreadable with_values None p₃ e

          module _ {values : List ℕ} {p₄ : ℕ} (e₄ : Whole None p₃ values p₄) where
            abbrev with_copies : List ℕ → ℕ → JobRead
            with_copies = after_copies kind (numbers_in budgets) (numbers_in weights) (numbers_in values)

            so_far_4 : read_job b ≡ with_values (numbers_in values) p₄
            so_far_4 = so_far_3 ∙ reads_on b unreadable with_values None p₃ e₄

            pub broken_5 : {place : ℕ} → section_in None b p₄ ≡ Err place → read_job b ≡ unreadable place
            broken_5 e = so_far_4 ∙ reads_no_more b unreadable with_copies None p₄ e

            module _ {copies : List ℕ} {p₅ : ℕ} (e₅ : Whole None p₄ copies p₅) where
              so_far_5 : read_job b ≡ with_copies (numbers_in copies) p₅
              so_far_5 = so_far_4 ∙ reads_on b unreadable with_copies None p₄ e₅

              -- bytes are left over
              pub left_over : p₅ < length b → read_job b ≡ unreadable p₅
              unfolding at_end if
              left_over h = so_far_5 ∙ simp (lt-ltb p₅ (length b) h)

              -- all is read. Of two budgets q is the last
              pub all_read : {c q : ℕ} → c ≡ at (numbers_in budgets) 0 → q ≡ at (numbers_in budgets) (many - 1) → length b ≤ p₅
                  → read_job b ≡ readable (job_of kind (c ∷ q ∷ []) (numbers_in weights) (numbers_in values) (numbers_in copies))
              unfolding at_end if
              all_read {c} {q} first last h =
                  so_far_5
                  ∙ simp (le-ltb p₅ (length b) h)
                  (ap readable (same_budgets kind _ _ _ (numbers_in budgets) c q (sym first) (λ has.
                  let second : many - 1 ≡ 1 = omega (arith, m, two_budgets kind has) in
                  ap (at (numbers_in budgets)) (sym second) ∙ sym last)))

-- ---- what was read, for those who took its case

-- the job with the lists that are cut out of the bytes is the one that they are read as
pub lists_cut : (b : List ℕ) {parts : Parts} {weights values copies : List ℕ} → PartsOf b parts
    → weights ≡ bytes_at b parts.weights → values ≡ bytes_at b parts.values → copies ≡ bytes_at b parts.copies
    → read_job b ≡ readable (job_from parts.kind (parts.budget ∷ parts.q ∷ []) [] weights [] values [] copies)
lists_cut b p weights-are values-are copies-are = rw (weights-are, values-are, copies-are) p.read

pub unread : (b : List ℕ) {r : Result Job ℕ} {place : ℕ} → r ≡ Err place → ReadAs b r → read_job b ≡ unreadable place
unfolding ReadAs
unread b e h = rw e at h

pub read_in : (b : List ℕ) {r : Result Job ℕ} {job : Job} → r ≡ Ok job → ReadAs b r → read_job b ≡ readable (job_in job)
unfolding ReadAs
read_in b e h = rw e at h
