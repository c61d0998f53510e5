-- The numbers of the refusals: none is 0, no two are alike, and so what was handed back is told by what it says.
-- Assumes nothing.
use Prim.Native.Nat.{ℕ}
use mathlib.Core.Path.{◌≡◌, refl, sym, ap, ◌∙◌}
use native.Mathlib.Omega.{arith}
use lib.Dec.{eqb, lit<}
use borrow.Author.Tests.{ne_eqb}
use Rattle.std.specs.Prelude.{Result, Ok, Err, ◌<◌}
use Rattle.meaning.specs.declared.Refusal.{Refusal}
use Rattle.meaning.specs.declared.Refusal.TheVariants as Why
use Rattle.meaning.specs.declared.Fault.{Fault}
use Rattle.meaning.specs.declared.Answer.{Answer}
use Rattle.meaning.specs.declared.Answer.TheVariants as Gives
use Rattle.meaning.specs.declared.Quick.{Quick}
use Rattle.meaning.specs.declared.Quick.TheVariants as Lists
use Rattle.meaning.specs.Lists.{if}
use Rattle.meaning.specs.Refusing.{number_of, refused}
use Rattle.meaning.specs.Says as Says
use Rattle.meaning.specs.Says.{said}
use Rattle.meaning.specs.Judges as Judges
use Rattle.meaning.specs.Judges.{judged}
use Rattle.meaning.specs.Reports as Reports
use Rattle.meaning.specs.Reports.{reported}
use Rattle.meaning.specs.Hands as Hands
use Rattle.meaning.specs.Hands.{handed}

-- the refusal of a number
abbrev refusal_of : ℕ → Refusal
refusal_of n =
    if (eqb n 1) Why.Bytes (if (eqb n 2) Why.Kind (if (eqb n 3) Why.Lengths (if (eqb n 4) Why.Bound (if (eqb n 5) Why.Rule
    (if (eqb n 6) Why.Room (if (eqb n 7) Why.NoSum (if (eqb n 8) Why.TooMany (if (eqb n 9) Why.NoClaims (if (eqb n 11) Why.Sections
    (if (eqb n 12) Why.Pick (if (eqb n 13) Why.Weight (if (eqb n 14) Why.Cell Why.Value))))))))))))

pub some_number : (why : Refusal) → 0 < number_of why
some_number Why.Bytes = lit< tt
some_number Why.Kind = lit< tt
some_number Why.Lengths = lit< tt
some_number Why.Bound = lit< tt
some_number Why.Rule = lit< tt
some_number Why.Room = lit< tt
some_number Why.NoSum = lit< tt
some_number Why.TooMany = lit< tt
some_number Why.NoClaims = lit< tt
some_number Why.Sections = lit< tt
some_number Why.Pick = lit< tt
some_number Why.Weight = lit< tt
some_number Why.Cell = lit< tt
some_number Why.Value = lit< tt

refusal_back : (why : Refusal) → refusal_of (number_of why) ≡ why
unfolding if
refusal_back Why.Bytes = refl
refusal_back Why.Kind = refl
refusal_back Why.Lengths = refl
refusal_back Why.Bound = refl
refusal_back Why.Rule = refl
refusal_back Why.Room = refl
refusal_back Why.NoSum = refl
refusal_back Why.TooMany = refl
refusal_back Why.NoClaims = refl
refusal_back Why.Sections = refl
refusal_back Why.Pick = refl
refusal_back Why.Weight = refl
refusal_back Why.Cell = refl
refusal_back Why.Value = refl

-- ---- what was handed back, by what it says

asked_of : ℕ → Result Unit Refusal
asked_of n = if (eqb n 0) (Ok tt) (Err (refusal_of n))

asked_back : (r : Result Unit Refusal) → asked_of (refused r) ≡ r
unfolding if asked_of
asked_back (Ok passed) = refl
asked_back (Err why) = rw (ne_eqb (number_of why) 0 (λ e. omega (arith, some_number why))) (ap (λ x. Err x) (refusal_back why))

-- one refusal, or none
pub one_refusal : (r r' : Result Unit Refusal) → refused r ≡ refused r' → r ≡ r'
one_refusal r r' e = sym (asked_back r) ∙ ap asked_of e ∙ asked_back r'

abbrev answer_of : Says.Answer → Result Answer Refusal
answer_of (Says.Refused n) = Err (refusal_of n)
answer_of (Says.Knapsack value weight) = Ok (Gives.Knapsack value weight)
answer_of (Says.Sums reached totals) = Ok (Gives.Sums reached totals)
answer_of (Says.Blocks blocks) = Ok (Gives.Blocks blocks)
answer_of (Says.Ways ways) = Ok (Gives.Ways ways)
answer_of (Says.Shares spare) = Ok (Gives.Shares spare)
answer_of (Says.Weight weight) = Ok (Gives.Weight weight)

answer_back : (r : Result Answer Refusal) → answer_of (said r) ≡ r
answer_back (Ok (Gives.Knapsack value weight)) = refl
answer_back (Ok (Gives.Sums reached totals)) = refl
answer_back (Ok (Gives.Blocks blocks)) = refl
answer_back (Ok (Gives.Ways ways)) = refl
answer_back (Ok (Gives.Shares spare)) = refl
answer_back (Ok (Gives.Weight weight)) = refl
answer_back (Err why) = ap (λ x. Err x) (refusal_back why)

-- the planner's answer
pub one_answer : (r r' : Result Answer Refusal) → said r ≡ said r' → r ≡ r'
one_answer r r' e = sym (answer_back r) ∙ ap answer_of e ∙ answer_back r'

abbrev verdict_of : Judges.Verdict → Result ℕ Fault
verdict_of (Judges.Accepted value) = Ok value
verdict_of (Judges.Refused number place) = Err (record { refusal = refusal_of number; place = place })

verdict_back : (r : Result ℕ Fault) → verdict_of (judged r) ≡ r
verdict_back (Ok value) = refl
verdict_back (Err fault) = ap (λ x. Err (record { refusal = x; place = fault.place })) (refusal_back fault.refusal)

-- the checker's verdict
pub one_verdict : (r r' : Result ℕ Fault) → judged r ≡ judged r' → r ≡ r'
one_verdict r r' e = sym (verdict_back r) ∙ ap verdict_of e ∙ verdict_back r'

abbrev written_of : Reports.Written → Result ℕ Refusal
written_of (Reports.Bytes bytes) = Ok bytes
written_of (Reports.Refused n) = Err (refusal_of n)

written_back : (r : Result ℕ Refusal) → written_of (reported r) ≡ r
written_back (Ok bytes) = refl
written_back (Err why) = ap (λ x. Err x) (refusal_back why)

-- the writer's answer
pub one_report : (r r' : Result ℕ Refusal) → reported r ≡ reported r' → r ≡ r'
one_report r r' e = sym (written_back r) ∙ ap written_of e ∙ written_back r'

abbrev quick_of : Hands.Quick → Result Quick Refusal
quick_of (Hands.Refused n) = Err (refusal_of n)
quick_of (Hands.First worth) = Ok (Lists.First worth)
quick_of (Hands.Second worth) = Ok (Lists.Second worth)

quick_back : (r : Result Quick Refusal) → quick_of (handed r) ≡ r
quick_back (Ok (Lists.First worth)) = refl
quick_back (Ok (Lists.Second worth)) = refl
quick_back (Err why) = ap (λ x. Err x) (refusal_back why)

-- the quick answer
pub one_quick : (r r' : Result Quick Refusal) → handed r ≡ handed r' → r ≡ r'
one_quick r r' e = sym (quick_back r) ∙ ap quick_of e ∙ quick_back r'
