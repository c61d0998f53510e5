-- Kind 7: C shared by claims.
-- Assumes nothing.
use Rattle.std.specs.Prelude.{ℕ, ◌+◌, ◌-◌, ◌*◌, ◌/◌, ◌%◌, Bool, ◌&&◌, ◌||◌, List, map, ltb, eqb}
use Rattle.meaning.specs.Lists.{at, sum, tally, up_to, if}
use Rattle.meaning.specs.Job.{Job, labels}

-- share i starts as the whole part of C times claim i over S
unfoldable pub start_of : Job → ℕ → ℕ
start_of j i = j.budget * at j.weights i / sum j.weights

-- its remainder is what that division leaves
unfoldable pub remainder_of : Job → ℕ → ℕ
remainder_of j i = j.budget * at j.weights i % sum j.weights

-- spare is C less the sum of the starts
unfoldable pub spare_of : Job → ℕ
spare_of j = j.budget - sum (map (start_of j) (up_to (labels j)))

-- label i goes before label m: its remainder is larger, or equal and its number lower
unfoldable pub precedes : Job → ℕ → ℕ → Bool
precedes j i m = ltb (remainder_of j m) (remainder_of j i) || (eqb (remainder_of j i) (remainder_of j m) && ltb i m)

-- how many labels go before label m
unfoldable pub rank_of : Job → ℕ → ℕ
rank_of j m = tally (λ i. precedes j i m) (up_to (labels j))

-- label i's share: its start, and one of the spare units where fewer labels than there are of them go before it
unfoldable pub share_of : Job → ℕ → ℕ
share_of j i = start_of j i + if (ltb (rank_of j i) (spare_of j)) 1 0

-- every label's share
unfoldable pub shares_of : Job → List ℕ
shares_of j = map (share_of j) (up_to (labels j))
