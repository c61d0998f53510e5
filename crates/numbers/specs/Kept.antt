-- A list of numbers, however it came.
-- Assumes nothing.
use Rattle.std.specs.Prelude.{ℕ, List}
use Rattle.numbers.specs.TwoSlices.{list_from}
use Rattle.numbers.specs.declared.Kept.{Kept}

-- the numbers that came so
abbrev pub numbers_of : Kept → List ℕ
numbers_of kept = list_from kept.numbers.now kept.bytes.now
