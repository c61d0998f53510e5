-- Corner cases of the bounds on n and C (4), each at its bound and one past it, by the bounds' names; and the numbers that the names stand for.
-- Assumes nothing.
use mathlib.Core.Path.{refl}
use Prim.Native.Nat.{suc, ℕ}
use mathlib.Core.List.{[], ◌∷◌, map}
use lib.ListN.{replicate}
use Rattle.meaning.specs.Lists.{up_to}
use Rattle.meaning.specs.Bounds.{most_labels, most_sizes, most_claims, most_budget, most_shared, most_value, least_copies}
use Rattle.meaning.proofs.Opens.{opens}
use Rattle.meaning.proofs.Cases.{plain}
use Rattle.meaning.proofs.Computing.{Computes, ◌gives◌, nothing, refusal_of}

-- the documents' own numbers: here alone they are said a second time, and a closed case below goes by the name (CornersNumbers has the other bounds)
bounds : Computes (λ (x : ℕ). x) (
    most_labels gives 4_096
    ∷ most_sizes gives 64
    ∷ most_claims gives 1_024
    ∷ most_budget gives 65_535
    ∷ most_shared gives 4_294_967_295
    ∷ []
    )
unfolding opens
bounds = refl

-- n in kinds 1 to 4, and C; a job within the bounds gets on to 6, for nothing is lent
refusal_4_labels : Computes refusal_of (
    (plain 1 most_budget (replicate most_labels 1) (replicate most_labels 0) [], nothing) gives 6  -- kind 1: n and C at their bounds
    ∷ (plain 1 0 (replicate (suc most_labels) 1) (replicate (suc most_labels) 0) [], nothing) gives 4  -- one label more
    ∷ (plain 1 (suc most_budget) (0 ∷ []) (suc most_value ∷ []) [], nothing) gives 4  -- one unit more, and 4 before 5 and 6
    ∷ (plain 2 most_budget (replicate most_labels 1) (replicate most_labels 0) (replicate most_labels least_copies), nothing) gives 6  -- kind 2
    ∷ (plain 2 0 (replicate (suc most_labels) 1) (replicate (suc most_labels) 0) (replicate (suc most_labels) least_copies), nothing) gives 4  -- one label more
    ∷ (plain 2 (suc most_budget) [] [] [], nothing) gives 4  -- one unit more
    ∷ (plain 3 most_budget (replicate most_labels 1) (replicate most_labels 1) [], nothing) gives 6  -- kind 3
    ∷ (plain 3 0 (replicate (suc most_labels) 1) (replicate (suc most_labels) 1) [], nothing) gives 4  -- one label more
    ∷ (plain 3 (suc most_budget) [] [] [], nothing) gives 4  -- one unit more
    ∷ (plain 4 most_budget (replicate most_labels 1) [] [], nothing) gives 6  -- kind 4
    ∷ (plain 4 0 (replicate (suc most_labels) 1) [] [], nothing) gives 4  -- one label more
    ∷ (plain 4 (suc most_budget) [] [] [], nothing) gives 4  -- one unit more
    ∷ []
    )
unfolding opens
refusal_4_labels = refl

-- those of kind 8, which are kind 4's
refusal_4_behind : Computes refusal_of (
    (plain 8 most_budget (replicate most_labels 1) [] [], nothing) gives 6  -- at the bounds
    ∷ (plain 8 0 (replicate (suc most_labels) 1) [] [], nothing) gives 4  -- one label more
    ∷ (plain 8 (suc most_budget) [] [] [], nothing) gives 4  -- one unit more
    ∷ []
    )
unfolding opens
refusal_4_behind = refl

-- n in kinds 5 and 6, and C
refusal_4_sizes : Computes refusal_of (
    (plain 5 most_budget (map suc (up_to most_sizes)) [] [], nothing) gives 6  -- kind 5: n and C at their bounds
    ∷ (plain 5 0 (map suc (up_to (suc most_sizes))) [] [], nothing) gives 4  -- one size more
    ∷ (plain 5 (suc most_budget) [] [] [], nothing) gives 4  -- one unit more
    ∷ (plain 6 most_budget (map suc (up_to most_sizes)) [] [], nothing) gives 6  -- kind 6
    ∷ (plain 6 0 (map suc (up_to (suc most_sizes))) [] [], nothing) gives 4  -- one size more
    ∷ (plain 6 (suc most_budget) [] [] [], nothing) gives 4  -- one unit more
    ∷ []
    )
unfolding opens
refusal_4_sizes = refl

-- n in kind 7, and any C
refusal_4_claims : Computes refusal_of (
    (plain 7 most_shared (replicate most_claims 1) [] [], nothing) gives 6  -- at the bounds
    ∷ (plain 7 0 (replicate (suc most_claims) 0) [] [], nothing) gives 4  -- one claim more
    ∷ (plain 7 (suc most_shared) [] [] [], nothing) gives 4  -- no 32-bit number
    ∷ []
    )
unfolding opens
refusal_4_claims = refl
