-- The part in which a section's numbers stand: reading goes on with them, or stops where the section breaks; and how many they are.
-- Assumes nothing.
use Prim.Native.Nat.{ℕ}
use mathlib.Core.Path.{◌≡◌, refl, ap, sym, ◌∙◌}
use mathlib.Core.List.{List, []}
use native.Mathlib.Omega.{arith}
use lib.ListN.{length}
use Rattle.std.specs.Prelude.{Some, Result, Ok, Err}
use Rattle.meaning.specs.Bytes.{Needed, Section, numbers_in, read_section, with_section}
use Rattle.meaning.proofs.Numbers.{section_found, section_numbers}
use Rattle.meaning.proofs.Verdicts.{needed_count}
use Rattle.numbers.specs.Sections.{part_of, section_in}

-- the part that was read, and the place after it
abbrev read_of : Result (List ℕ × ℕ) ℕ → List ℕ × ℕ
read_of (Ok read) = read
read_of (Err place) = ([], place)

-- where it broke
abbrev break_of : Result (List ℕ × ℕ) ℕ → ℕ
break_of (Ok read) = 0
break_of (Err place) = place

not_both : {r : Result (List ℕ × ℕ) ℕ} {read : List ℕ × ℕ} {place : ℕ} → r ≡ Ok read → r ≡ Err place → ⊥
not_both found broken = let z : ◌≡◌ {A = ℕ} 0 1 = cc in omega arith

module _ {A : Type 0} (b : List ℕ) (stop : ℕ → A) (on : List ℕ → ℕ → A) where
  on_with : (s : Section) {part : List ℕ} {next : ℕ} → part_of b s ≡ Ok (part, next) → with_section b s stop on ≡ on (numbers_in part) next
  unfolding with_section
  on_with (Ok (start, count, after)) e = ap (λ r. on (numbers_in (read_of r).0) (read_of r).1) e
  on_with (Err place) e = absurd (not_both e refl)

  stop_with : (s : Section) {place : ℕ} → part_of b s ≡ Err place → with_section b s stop on ≡ stop place
  unfolding with_section
  stop_with (Ok (start, count, after)) e = absurd (not_both refl e)
  stop_with (Err place) e = ap (λ r. stop (break_of r)) e

  -- reading goes on with a section's numbers, from the place after it
  pub reads_on : (needed : Needed) (p : ℕ) {part : List ℕ} {next : ℕ} → section_in needed b p ≡ Ok (part, next)
      → with_section b (read_section needed b p) stop on ≡ on (numbers_in part) next
  unfolding section_in
  reads_on needed p e = on_with (read_section needed b p) e

  -- and stops where the section breaks
  pub reads_no_more : (needed : Needed) (p : ℕ) {place : ℕ} → section_in needed b p ≡ Err place → with_section b (read_section needed b p) stop on ≡ stop place
  unfolding section_in
  reads_no_more needed p e = stop_with (read_section needed b p) e

-- a section that needs to have n numbers has them
pub part_long : {n : ℕ} (b : List ℕ) (p : ℕ) {part : List ℕ} {next : ℕ} → section_in (Some n) b p ≡ Ok (part, next) → length (numbers_in part) ≡ n
unfolding section_in
part_long {n} b p {part} {next} e = go (read_section (Some n) b p) refl e
  where
    go : (s : Section) → read_section (Some n) b p ≡ s → part_of b s ≡ Ok (part, next) → length (numbers_in part) ≡ n
    go (Ok (start, count, after)) is e =
        let found = section_found (Some n) b p start count after is in
        ap (λ r. length (numbers_in (read_of r).0)) (sym e) ∙ section_numbers b start count after found.ends found.inside ∙ needed_count n count found.right
    go (Err place) is e = absurd (not_both e refl)
