-- `host::quabnester_quick` meets its contract: the quick answer as numbers.
use mathlib.Core.Path.{◌≡◌, refl, ap, ◌∙◌}
use Prim.Native.Nat.{ℕ}
use mathlib.Core.List.{List}
use Rattle.meaning.specs.Job.{Job}
use Rattle.meaning.specs.Hands.{Quick, given, handed}
use Rattle.meaning.specs.Answers.{quick_numbers}
use Rattle.meaning.specs.Quick.{Filled}
use Rattle.meaning.specs.Host.{QuickHost}
use Rattle.host.proofs.quabnester_quick.Goals as goal

-- the numbers of an answer that is known to be this case
in_numbers : {j : Job} → {first second first' second' : List ℕ} → {a : Quick} → (case : Quick)
    → Filled j first second a first' second'
    → a ≡ case
    → QuickHost j first second (quick_numbers case).refusal (quick_numbers case).which (quick_numbers case).value first' second'
in_numbers {a = a} case filled is =
    record { answer = a; filled = filled; refusal = rw is refl; which_is = rw is refl; value_is = rw is refl }

pub returns-in-Err : goal.returns-in-Err
unfolding quick_numbers
returns-in-Err c =
    let told = c.fill in
    rw c.number.ensures (in_numbers _ told.ensures (ap handed c.in-Err.is))

pub returns-in-Ok-First : goal.returns-in-Ok-First
unfolding quick_numbers
returns-in-Ok-First c =
    let told = c.fill in
    in_numbers _ told.ensures (ap handed c.in-Ok-First.is ∙ ap given c.in-Ok-First.field-0-is)

pub returns-in-Ok-Second : goal.returns-in-Ok-Second
unfolding quick_numbers
returns-in-Ok-Second c =
    let told = c.fill in
    in_numbers _ told.ensures (ap handed c.in-Ok-Second.is ∙ ap given c.in-Ok-Second.field-0-is)
