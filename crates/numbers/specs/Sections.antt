-- The part of the bytes in which a section's numbers stand.
-- Assumes nothing.
use Rattle.std.specs.Prelude.{ℕ, List, Result, Ok, Err}
use Rattle.std.proofs.Common.{Bor}
use Rattle.meaning.specs.Bytes.{Needed, Section, between, read_section}

-- the part and the place after it, by where it stands; or where reading broke
abbrev pub part_of : List ℕ → Section → Result (List ℕ × ℕ) ℕ
part_of b (Ok (start, count, next)) = Ok (between b start next, next)
part_of b (Err place) = Err place

-- the part that stands in the section whose count is at a place
unfoldable pub section_in : Needed → List ℕ → ℕ → Result (List ℕ × ℕ) ℕ
section_in needed b place = part_of b (read_section needed b place)

-- what was read, whatever slice the part is
abbrev pub part_read : Result (Bor (List ℕ) × ℕ) ℕ → Result (List ℕ × ℕ) ℕ
part_read (Ok (part, next)) = Ok (part.now, next)
part_read (Err place) = Err place
