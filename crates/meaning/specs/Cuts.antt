-- Kind 9: the labels that remain, the divisor, the cut values, and how many cells they need.
-- Assumes nothing.
use Rattle.std.specs.Prelude.{ℕ, ◌+◌, ◌*◌, ◌/◌, max, List, [], ◌∷◌, map, leb, take}
use Rattle.meaning.specs.Lists.{sum, tally, if}
use Rattle.meaning.specs.Job.{Job, labels}

-- how many of the first i labels remain: those heavier than C are left aside
unfoldable pub remain_of : Job → ℕ → ℕ
remain_of j i = tally (λ w. leb w j.budget) (take i j.weights)

-- m: how many remain of all
unfoldable pub remain : Job → ℕ
remain j = remain_of j (labels j)

-- of a list with a number for each label, those of the labels that weigh at most c
unfoldable pub that_fit : ℕ → List ℕ → List ℕ → List ℕ
that_fit c [] xs = []
that_fit c (w ∷ ws) [] = []
that_fit c (w ∷ ws) (x ∷ xs) = if (leb w c) (x ∷ that_fit c ws xs) (that_fit c ws xs)

-- the greatest of some numbers; 0 where there is none
unfoldable pub greatest_of : List ℕ → ℕ
greatest_of [] = 0
greatest_of (x ∷ xs) = max x (greatest_of xs)

-- p: the greatest value of the remaining labels
unfoldable pub greatest_value : Job → ℕ
greatest_value j = greatest_of (that_fit j.budget j.weights j.values)

-- the whole part of p divided by the product of m and q, but at least 1; so it is 1 where none remains, since a quotient by 0 is 0
unfoldable pub divisor : Job → ℕ
divisor j = max 1 (greatest_value j / (remain j * j.q))

-- values divided by d and cut to whole numbers
unfoldable pub cut_by : ℕ → List ℕ → List ℕ
cut_by d values = map (λ v. v / d) values

-- the cut values of a job
unfoldable pub cut_values : Job → List ℕ
cut_values j = cut_by (divisor j) j.values

-- T: the sum of the remaining labels' cut values
unfoldable pub cut_sum : Job → ℕ
cut_sum j = sum (that_fit j.budget j.weights (cut_values j))

-- (m+1)(T+1): how many cells the table needs
unfoldable pub stated_cells : Job → ℕ
stated_cells j = (remain j + 1) * (cut_sum j + 1)
