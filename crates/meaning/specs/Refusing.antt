-- The document's numbers of the refusals.
-- Assumes nothing.
use Rattle.std.specs.Prelude.{ℕ, Result, Ok, Err}
use Rattle.meaning.specs.declared.Refusal.{Refusal}
use Rattle.meaning.specs.declared.Refusal.TheVariants as Why

-- the number of a refusal
abbrev pub number_of : Refusal → ℕ
number_of Why.Bytes = 1
number_of Why.Kind = 2
number_of Why.Lengths = 3
number_of Why.Bound = 4
number_of Why.Rule = 5
number_of Why.Room = 6
number_of Why.NoSum = 7
number_of Why.TooMany = 8
number_of Why.NoClaims = 9
number_of Why.Sections = 11
number_of Why.Pick = 12
number_of Why.Weight = 13
number_of Why.Cell = 14
number_of Why.Value = 15

-- the number of what turned a request down, and 0 where nothing did
abbrev pub refused : {A : Type 0} → Result A Refusal → ℕ
refused (Ok passed) = 0
refused (Err why) = number_of why
