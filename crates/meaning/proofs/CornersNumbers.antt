-- Corner cases of the rules on the numbers of a list (5), at their bounds and one past them, by the bounds' names; and the numbers that the names stand for.
-- Assumes nothing.
use mathlib.Core.Path.{refl}
use Prim.Native.Nat.{suc, ℕ}
use mathlib.Core.List.{[], ◌∷◌}
use Rattle.meaning.specs.Bounds.{least_copies, most_budget, most_copies, most_value}
use Rattle.meaning.proofs.Opens.{opens}
use Rattle.meaning.proofs.Cases.{plain}
use Rattle.meaning.proofs.Computing.{Computes, ◌gives◌, nothing, plenty, refusal_of}

-- document 01's own numbers: here alone they are said a second time
number_bounds : Computes (λ (x : ℕ). x) (
    most_value gives 65_535
    ∷ most_copies gives 65_535
    ∷ least_copies gives 0
    ∷ []
    )
unfolding opens
number_bounds = refl

-- 5: the numbers; a job that keeps their rules gets on to 6
refusal_5 : Computes refusal_of (
    (plain 1 1 (4_294_967_295 ∷ 1 ∷ []) (most_value ∷ 0 ∷ []) [], nothing) gives 6  -- kind 1: the greatest and the least
    ∷ (plain 1 most_budget (1 ∷ []) (suc most_value ∷ []) [], nothing) gives 5  -- a value above, and 5 before 6
    ∷ (plain 1 1 (0 ∷ []) (1 ∷ []) [], plenty) gives 5  -- weight 0
    ∷ (plain 1 1 (1 ∷ 0 ∷ []) (1 ∷ 1 ∷ []) [], plenty) gives 5  -- the last weight 0
    ∷ (plain 2 1 (4_294_967_295 ∷ 1 ∷ []) (most_value ∷ 0 ∷ []) (most_copies ∷ least_copies ∷ []), nothing) gives 6  -- kind 2: the greatest and the least
    ∷ (plain 2 1 (1 ∷ []) (suc most_value ∷ []) (1 ∷ []), plenty) gives 5  -- a value above
    ∷ (plain 2 1 (1 ∷ []) (1 ∷ []) (suc most_copies ∷ []), plenty) gives 5  -- copies above
    ∷ (plain 2 1 (0 ∷ []) (1 ∷ []) (1 ∷ []), plenty) gives 5  -- weight 0
    ∷ (plain 3 1 (4_294_967_295 ∷ 1 ∷ []) (most_value ∷ 1 ∷ []) [], nothing) gives 6  -- kind 3: the greatest and the least
    ∷ (plain 3 1 (1 ∷ []) (suc most_value ∷ []) [], plenty) gives 5  -- a value above
    ∷ (plain 3 1 (1 ∷ []) (0 ∷ []) [], plenty) gives 5  -- value 0
    ∷ (plain 3 1 (0 ∷ []) (1 ∷ []) [], plenty) gives 5  -- weight 0
    ∷ (plain 4 1 (4_294_967_295 ∷ 1 ∷ []) [] [], nothing) gives 6  -- kind 4: the greatest and the least
    ∷ (plain 4 1 (0 ∷ []) [] [], nothing) gives 5  -- weight 0
    ∷ (plain 5 1 (1 ∷ 2 ∷ 4_294_967_295 ∷ []) [] [], nothing) gives 6  -- kind 5: ascending, and above C
    ∷ (plain 5 1 (1 ∷ 1 ∷ []) [] [], plenty) gives 5  -- equal sizes
    ∷ (plain 5 1 (3 ∷ 2 ∷ []) [] [], nothing) gives 5  -- falling sizes
    ∷ (plain 5 1 (0 ∷ 1 ∷ []) [] [], plenty) gives 5  -- size 0
    ∷ (plain 6 1 (1 ∷ 2 ∷ 4_294_967_295 ∷ []) [] [], nothing) gives 6  -- kind 6: ascending, and above C
    ∷ (plain 6 1 (1 ∷ 1 ∷ []) [] [], plenty) gives 5  -- equal sizes
    ∷ (plain 6 1 (3 ∷ 2 ∷ []) [] [], nothing) gives 5  -- falling sizes
    ∷ (plain 6 1 (0 ∷ 1 ∷ []) [] [], plenty) gives 5  -- size 0
    ∷ (plain 7 1 (4_294_967_295 ∷ 0 ∷ []) [] [], nothing) gives 6  -- kind 7: any claims
    ∷ (plain 8 1 (4_294_967_295 ∷ 1 ∷ []) [] [], nothing) gives 6  -- kind 8: the greatest and the least
    ∷ (plain 8 1 (1 ∷ 0 ∷ []) [] [], plenty) gives 5  -- weight 0
    ∷ []
    )
unfolding opens
refusal_5 = refl
