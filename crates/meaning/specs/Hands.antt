-- What the quick answer says: a refusal number, or which of its two lists is the worthier, and what that is worth.
-- Assumes nothing.
use Rattle.std.specs.Prelude.{ℕ, Result, Ok, Err}
use Rattle.meaning.specs.declared.Refusal.{Refusal}
use Rattle.meaning.specs.declared.Quick.{Quick as Given}
use Rattle.meaning.specs.declared.Quick.TheVariants as Gives
use Rattle.meaning.specs.Refusing.{number_of}

pub data Quick : Type 0 where
  Refused First Second : ℕ → Quick

-- what an answer says
abbrev pub given : Given → Quick
given (Gives.First worth) = First worth
given (Gives.Second worth) = Second worth

-- what is said by what was handed back
abbrev pub handed : Result Given Refusal → Quick
handed (Ok answer) = given answer
handed (Err why) = Refused (number_of why)
