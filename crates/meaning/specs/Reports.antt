-- What the certificate writer says: how many bytes it wrote, or a refusal number.
-- Assumes nothing.
use Rattle.std.specs.Prelude.{ℕ, Result, Ok, Err}
use Rattle.meaning.specs.declared.Refusal.{Refusal}
use Rattle.meaning.specs.Refusing.{number_of}

pub data Written : Type 0 where
  Bytes Refused : ℕ → Written

-- what is said by what was handed back
abbrev pub reported : Result ℕ Refusal → Written
reported (Ok bytes) = Bytes bytes
reported (Err why) = Refused (number_of why)
