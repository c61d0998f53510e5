-- Certificate bytes, read section by section: where they break, and where they come to the end.
-- Assumes nothing.
use mathlib.Core.Path.{◌≡◌, refl, sym, ap, ◌∙◌}
use Prim.Native.Nat.{ℕ, ◌≤◌, ◌<◌}
use mathlib.Core.List.{List}
use lib.ListN.{length}
use borrow.Author.Tests.{lt-ltb, le-ltb}
use Rattle.std.specs.Prelude.{Result, Some, Ok, Err}
use Rattle.meaning.specs.Judges.{Verdict, Refused}
use Rattle.meaning.specs.Lists.{if}
use Rattle.meaning.specs.Job.{Job, Knapsack, labels}
use Rattle.meaning.specs.Bytes.{Section, at_end, numbers_in, read_section, with_section}
use Rattle.meaning.specs.Certificates.{certificate_broken, certificate_cells, verdict_on_cells, verdict_on_certificate}
use Rattle.numbers.specs.Sections.{part_of, section_in}
use Rattle.numbers.proofs.Parts.{reads_on, reads_no_more}

-- a section was read with the count that is due
pub asked_as : {found : Section} (due n : ℕ) (b : List ℕ) (p : ℕ) → due ≡ n → found ≡ read_section (Some n) b p
    → read_section (Some due) b p ≡ found
asked_as due n b p many read = ap (λ (m : ℕ). read_section (Some m) b p) many ∙ sym read

-- and so was the part in which its numbers stand
pub part_asked : {found : Result (List ℕ × ℕ) ℕ} (due n : ℕ) (b : List ℕ) (p : ℕ) → due ≡ n → found ≡ section_in (Some n) b p
    → section_in (Some due) b p ≡ found
unfolding section_in
part_asked due n b p many read = ap (part_of b) (asked_as due n b p many refl) ∙ sym read

module _ (k : Knapsack) (j : Job) (b : List ℕ) where
  abbrev after_cells : List ℕ → List ℕ → ℕ → Verdict
  after_cells picks cells p = at_end b p certificate_broken (verdict_on_cells k j picks cells)

  abbrev after_picks : List ℕ → ℕ → Verdict
  after_picks picks p = with_section b (read_section (Some (certificate_cells k j)) b p) certificate_broken (after_cells picks)

  pub picks_broken : {place : ℕ} → section_in (Some (labels j)) b 0 ≡ Err place → Refused 11 0 ≡ verdict_on_certificate k j b
  unfolding verdict_on_certificate certificate_broken
  picks_broken e = sym (reads_no_more b certificate_broken after_picks (Some (labels j)) 0 e)

  module _ {picks : List ℕ} {p-end : ℕ} (first : section_in (Some (labels j)) b 0 ≡ Ok (picks, p-end)) where
    so_far : verdict_on_certificate k j b ≡ after_picks (numbers_in picks) p-end
    unfolding verdict_on_certificate
    so_far = reads_on b certificate_broken after_picks (Some (labels j)) 0 first

    pub cells_broken : {place : ℕ} → section_in (Some (certificate_cells k j)) b p-end ≡ Err place → Refused 11 0 ≡ verdict_on_certificate k j b
    unfolding certificate_broken
    cells_broken e = sym (so_far ∙ reads_no_more b certificate_broken (after_cells (numbers_in picks)) (Some (certificate_cells k j)) p-end e)

    module _ {cells : List ℕ} {c-end : ℕ} (second : section_in (Some (certificate_cells k j)) b p-end ≡ Ok (cells, c-end)) where
      so_on : verdict_on_certificate k j b ≡ after_cells (numbers_in picks) (numbers_in cells) c-end
      so_on = so_far ∙ reads_on b certificate_broken (after_cells (numbers_in picks)) (Some (certificate_cells k j)) p-end second

      -- bytes are left over
      pub left_over : c-end < length b → Refused 11 0 ≡ verdict_on_certificate k j b
      unfolding at_end certificate_broken if
      left_over h = sym (so_on ∙ rw (lt-ltb c-end (length b) h))

      -- all is read
      pub all_read : length b ≤ c-end → verdict_on_cells k j (numbers_in picks) (numbers_in cells) ≡ verdict_on_certificate k j b
      unfolding at_end if
      all_read h = sym (so_on ∙ rw (le-ltb c-end (length b) h))
