-- Numbers in bytes, the sections that they stand in, and job bytes.
-- Assumes nothing.
use Rattle.std.specs.Prelude.{ℕ, ◌+◌, ◌-◌, ◌*◌, ◌/◌, ◌%◌, Bool, true, not, List, [], ◌∷◌, ◌++◌, map, ltb, eqb, length, take, drop, Option, None, Some, Result, Ok, Err}
use Rattle.meaning.specs.Lists.{at, up_to, if}
use Rattle.meaning.specs.Job.{Job, job_of, budgets_of, budget_count}

-- ---- numbers

-- the number in the four bytes at place p, lowest byte first
unfoldable pub number_at : List ℕ → ℕ → ℕ
number_at b p = at b p + 256 * at b (p + 1) + 65_536 * at b (p + 2) + 16_777_216 * at b (p + 3)

-- the numbers in bytes: number i stands at place 4i, and up to three bytes at the end are no number
unfoldable pub numbers_in : List ℕ → List ℕ
numbers_in b = map (λ (i : ℕ). number_at b (4 * i)) (up_to (length b / 4))

-- the part of the bytes from place a up to place e, e not with it
unfoldable pub between : List ℕ → ℕ → ℕ → List ℕ
between b a e = take (e - a) (drop a b)

-- ---- sections

-- the count that a section needs to have: any, or just this one
abbrev pub Needed : Type 0
Needed = Option ℕ

-- what reading a section finds: where its numbers start, how many they are and the place after them; or the place where it breaks
abbrev pub Section : Type 0
Section = Result (ℕ × ℕ × ℕ) ℕ

-- whether a count is the needed one
unfoldable pub is_needed : Needed → ℕ → Bool
is_needed None count = true
is_needed (Some needed) count = eqb count needed

-- a section that is all there, its count at place p
unfoldable pub whole_section : List ℕ → ℕ → Section
whole_section b p = Ok (p + 4, number_at b p, p + 4 + 4 * number_at b p)

-- the section whose count stands at place p. It breaks at p where the count is cut short or isn't the needed one,
-- and at its first number where the numbers run past the end
unfoldable pub read_section : Needed → List ℕ → ℕ → Section
read_section needed b p =
    if (ltb (length b) (p + 4)) (Err p)
    (if (not (is_needed needed (number_at b p))) (Err p)
    (if (ltb (length b) (p + 4 + 4 * number_at b p)) (Err (p + 4)) (whole_section b p)))

-- reads on after a section of b, with its numbers and the place after it; or stops where it breaks
unfoldable pub with_section : {A : Type 0} → List ℕ → Section → (ℕ → A) → (List ℕ → ℕ → A) → A
with_section b (Ok (start, count, next)) stop read_on = read_on (numbers_in (between b start next)) next
with_section b (Err place) stop read_on = stop place

-- `done` where the bytes end at place p; else stops there, at the first byte left over
unfoldable pub at_end : {A : Type 0} → List ℕ → ℕ → (ℕ → A) → A → A
at_end b p stop done = if (ltb p (length b)) (stop p) done

-- ---- job bytes

-- what job bytes are read as: refusal 1, with the place where reading broke; or a job
pub data JobRead : Type 0 where
  unreadable : (place : ℕ) → JobRead
  readable : Job → JobRead

-- kinds, budgets, weights, values, copies; the first section has count 1, and the second that of the kind
unfoldable pub read_job : List ℕ → JobRead
read_job b =
    with_section b (read_section (Some 1) b 0) unreadable λ kinds p₁.
    with_section b (read_section (Some (budget_count (at kinds 0))) b p₁) unreadable λ budgets p₂.
    with_section b (read_section None b p₂) unreadable λ weights p₃.
    with_section b (read_section None b p₃) unreadable λ values p₄.
    with_section b (read_section None b p₄) unreadable λ copies p₅.
    at_end b p₅ unreadable (readable (job_of (at kinds 0) budgets weights values copies))

-- ---- writing

-- a number as four bytes, lowest first
unfoldable pub bytes_of : ℕ → List ℕ
bytes_of n = n % 256 ∷ n / 256 % 256 ∷ n / 65_536 % 256 ∷ n / 16_777_216 % 256 ∷ []

-- numbers, four bytes each
unfoldable pub bytes_of_all : List ℕ → List ℕ
bytes_of_all [] = []
bytes_of_all (n ∷ ns) = bytes_of n ++ bytes_of_all ns

-- a section: its count, then its numbers
unfoldable pub section_bytes : List ℕ → List ℕ
section_bytes ns = bytes_of (length ns) ++ bytes_of_all ns

-- a job's five sections
unfoldable pub job_bytes : Job → List ℕ
job_bytes j =
    section_bytes (j.kind_number ∷ []) ++ section_bytes (budgets_of j)
    ++ section_bytes j.weights ++ section_bytes j.values ++ section_bytes j.copies
