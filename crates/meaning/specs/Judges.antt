-- What the checker says: the value, or a refusal number and the place that it names (0 where it names none).
-- Assumes nothing.
use Rattle.std.specs.Prelude.{ℕ, Result, Ok, Err}
use Rattle.meaning.specs.declared.Fault.{Fault}
use Rattle.meaning.specs.Refusing.{number_of}

pub data Verdict : Type 0 where
  Accepted : ℕ → Verdict
  Refused : (number place : ℕ) → Verdict

-- what is said by what was handed back
abbrev pub judged : Result ℕ Fault → Verdict
judged (Ok value) = Accepted value
judged (Err fault) = Refused (number_of fault.refusal) fault.place
