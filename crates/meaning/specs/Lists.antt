-- Lists of numbers: what stands at a place, sums, and tests of each member.
-- Assumes nothing.
use Rattle.std.specs.Prelude.{ℕ, zero, suc, ◌+◌, ◌*◌, Bool, true, false, ◌&&◌, List, [], ◌∷◌, ◌++◌, get_or}

-- the number at place i of a list, the first being place 0; 0 past the end
abbrev pub at : List ℕ → ℕ → ℕ
at xs i = get_or xs i 0

-- the sum of a list
unfoldable pub sum : List ℕ → ℕ
sum [] = 0
sum (x ∷ xs) = x + sum xs

-- weights (or values), times their picks, summed over as many labels as both lists have
unfoldable pub total : List ℕ → List ℕ → ℕ
total [] picks = 0
total (w ∷ weights) [] = 0
total (w ∷ weights) (p ∷ picks) = w * p + total weights picks

-- every member passes the test
unfoldable pub every : {A : Type 0} → (A → Bool) → List A → Bool
every test [] = true
every test (x ∷ xs) = test x && every test xs

-- the numbers 0, 1, .. n-1
unfoldable pub up_to : ℕ → List ℕ
up_to zero = []
up_to (suc n) = up_to n ++ (n ∷ [])

-- the one where the test passes, the other where it fails
unfoldable pub if : {A : Type 0} → Bool → A → A → A
if true one other = one
if false one other = other

-- how many members pass the test
unfoldable pub tally : (ℕ → Bool) → List ℕ → ℕ
tally test [] = 0
tally test (x ∷ xs) = if (test x) 1 0 + tally test xs
