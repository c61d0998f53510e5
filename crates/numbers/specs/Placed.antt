-- What a slice holds after something was written at a place of it.
-- Assumes nothing.
use Rattle.std.specs.Prelude.{ℕ, ◌+◌, ◌≡◌, List, ◌++◌, length, take, drop}
use Rattle.meaning.specs.Slices.{over}
use Rattle.meaning.specs.Bytes.{section_bytes}

-- the slice holds `new` from a place on, and elsewhere what it held
unfoldable pub HoldsAt : ℕ → List ℕ → List ℕ → List ℕ → Type 0
HoldsAt place new before after = after ≡ take place before ++ over new (drop place before)

-- `new` was written from a place on, and `next` is the place after it
pub record WrittenAt (place : ℕ) (new before after : List ℕ) (next : ℕ) : Type 0 where
  pub written : HoldsAt place new before after
  pub ends : next ≡ place + length new

-- a section was written from a place on
abbrev pub SectionWritten : ℕ → List ℕ → List ℕ → List ℕ → ℕ → Type 0
SectionWritten place numbers = WrittenAt place (section_bytes numbers)
