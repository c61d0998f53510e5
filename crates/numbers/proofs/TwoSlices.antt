-- A list that is handed over as numbers and bytes: with no bytes, its length, and what stands at a place.
-- Assumes nothing.
use Prim.Native.Nat.{ℕ, ◌+◌, ◌-◌, ◌/◌, ◌≤◌, ◌<◌}
use mathlib.Core.Path.{◌≡◌, ap, ◌∙◌}
use mathlib.Core.List.{List, [], ◌++◌, append-nil}
use native.Mathlib.Omega.{arith}
use lib.ListN.{length, length-append, get_or-append}
use lib.Seq.{get_or-append-add}
use Rattle.meaning.specs.Lists.{at, up_to}
use Rattle.meaning.specs.Job.{job_of}
use Rattle.meaning.specs.Bytes.{numbers_in}
use Rattle.meaning.proofs.Numbers.{numbers_long}
use Rattle.numbers.specs.TwoSlices.{list_from, job_from}

-- a job of lists passes no bytes
pub list_numbers : (xs : List ℕ) → list_from xs [] ≡ xs
unfolding list_from numbers_in up_to
list_numbers xs = append-nil xs

pub job_of_lists : (kind : ℕ) (budgets ws vs cs : List ℕ) → job_from kind budgets ws [] vs [] cs [] ≡ job_of kind budgets ws vs cs
job_of_lists kind budgets ws vs cs = rw (list_numbers ws, list_numbers vs, list_numbers cs)

pub list_long : (xs b : List ℕ) → length (list_from xs b) ≡ length xs + length b / 4
unfolding list_from
list_long xs b = length-append xs (numbers_in b) ∙ omega (arith, numbers_long b)

-- a place within the numbers
pub list_first : (xs b : List ℕ) (i : ℕ) → i < length xs → at (list_from xs b) i ≡ at xs i
unfolding list_from
list_first xs b i h = get_or-append xs (numbers_in b) 0 i h

-- a place past the numbers
pub list_rest : (xs b : List ℕ) (i : ℕ) → length xs ≤ i → at (list_from xs b) i ≡ at (numbers_in b) (i - length xs)
unfolding list_from
list_rest xs b i past =
    let e : i ≡ length xs + (i - length xs) = omega arith in
    ap (λ (k : ℕ). at (xs ++ numbers_in b) k) e ∙ get_or-append-add xs (numbers_in b) (i - length xs) 0
