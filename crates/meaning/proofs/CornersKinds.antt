-- Corner cases of the kind (2) and of the lists that it uses (3), each with what is refused before it.
-- Assumes nothing.
use mathlib.Core.Path.{refl}
use Prim.Native.Nat.{suc}
use mathlib.Core.List.{[], ◌∷◌}
use lib.ListN.{length}
use Rattle.meaning.specs.Bounds.{most_budget}
use Rattle.meaning.specs.Job.{all_kinds}
use Rattle.meaning.proofs.Opens.{opens}
use Rattle.meaning.proofs.Cases.{plain}
use Rattle.meaning.proofs.Computing.{Computes, ◌gives◌, nothing, plenty, refusal_of}

-- 2: the kind
refusal_2 : Computes refusal_of (
    (plain 0 99_999 (0 ∷ []) (1 ∷ 2 ∷ []) [], nothing) gives 2  -- kind 0, and 2 before 3
    ∷ (plain (suc (length all_kinds)) 0 [] [] [], nothing) gives 2  -- one above the last kind
    ∷ (plain 4_294_967_295 0 [] [] [], nothing) gives 2  -- a large kind
    ∷ []
    )
unfolding opens
refusal_2 = refl

-- 3: the lists that are used
refusal_3 : Computes refusal_of (
    (plain 1 (suc most_budget) (0 ∷ []) [] [], nothing) gives 3  -- kind 1 has values, and 3 before 4, 5 and 6
    ∷ (plain 1 1 (1 ∷ []) (1 ∷ 1 ∷ []) [], plenty) gives 3  -- one value too many
    ∷ (plain 1 1 (1 ∷ []) (1 ∷ []) (1 ∷ []), plenty) gives 3  -- kind 1 has no copies
    ∷ (plain 2 1 (1 ∷ []) [] (1 ∷ []), plenty) gives 3  -- kind 2 has values
    ∷ (plain 2 1 (1 ∷ []) (1 ∷ []) [], plenty) gives 3  -- kind 2 has copies
    ∷ (plain 2 1 (1 ∷ []) (1 ∷ []) (1 ∷ 1 ∷ []), plenty) gives 3  -- one copies number too many
    ∷ (plain 3 1 (1 ∷ []) [] [], plenty) gives 3  -- kind 3 has values
    ∷ (plain 3 1 (1 ∷ []) (1 ∷ []) (1 ∷ []), plenty) gives 3  -- kind 3 has no copies
    ∷ (plain 4 1 (1 ∷ []) (1 ∷ []) [], plenty) gives 3  -- kind 4 has no values
    ∷ (plain 4 1 (1 ∷ []) [] (1 ∷ []), plenty) gives 3  -- kind 4 has no copies
    ∷ (plain 5 1 (1 ∷ []) (1 ∷ []) [], plenty) gives 3  -- kind 5 has no values
    ∷ (plain 5 1 (1 ∷ []) [] (1 ∷ []), plenty) gives 3  -- kind 5 has no copies
    ∷ (plain 6 1 (1 ∷ []) (1 ∷ []) [], plenty) gives 3  -- kind 6 has no values
    ∷ (plain 6 1 (1 ∷ []) [] (1 ∷ []), plenty) gives 3  -- kind 6 has no copies
    ∷ (plain 7 1 (1 ∷ []) (1 ∷ []) [], plenty) gives 3  -- kind 7 has no values
    ∷ (plain 7 1 (1 ∷ []) [] (1 ∷ []), plenty) gives 3  -- kind 7 has no copies
    ∷ (plain 8 1 (1 ∷ []) (1 ∷ []) [], plenty) gives 3  -- kind 8 has no values
    ∷ (plain 8 1 (1 ∷ []) [] (1 ∷ []), plenty) gives 3  -- kind 8 has no copies
    ∷ []
    )
unfolding opens
refusal_3 = refl
