-- Corner cases of kind 7: the sum of claims (9), and shares.
-- Assumes nothing.
use mathlib.Core.Path.{refl}
use mathlib.Core.List.{[], ◌∷◌}
use Rattle.meaning.specs.Shares.{shares_of}
use Rattle.meaning.proofs.Opens.{opens}
use Rattle.meaning.proofs.Cases.{plain}
use Rattle.meaning.proofs.Computing.{Computes, ◌gives◌, nothing, refusal_of, room}

-- 9: the sum of claims
refusal_9 : Computes refusal_of (
    (plain 7 5 (0 ∷ 0 ∷ []) [] [], room 0 0 1) gives 6  -- 6 before 9
    ∷ (plain 7 5 (0 ∷ 0 ∷ []) [] [], room 0 0 2) gives 9  -- claims of 0
    ∷ (plain 7 5 [] [] [], nothing) gives 9  -- no claims
    ∷ (plain 7 0 (0 ∷ 1 ∷ []) [] [], room 0 0 2) gives 0  -- S is 1
    ∷ []
    )
unfolding opens
refusal_9 = refl

-- shares
shares : Computes shares_of (
    plain 7 2 (1 ∷ 3 ∷ []) [] [] gives (1 ∷ 1 ∷ [])  -- equal remainders
    ∷ plain 7 4_294_967_295 (4_294_967_295 ∷ 0 ∷ 4_294_967_295 ∷ []) [] [] gives (2_147_483_648 ∷ 0 ∷ 2_147_483_647 ∷ [])  -- the largest numbers
    ∷ plain 7 0 (3 ∷ 0 ∷ []) [] [] gives (0 ∷ 0 ∷ [])  -- nothing to share
    ∷ []
    )
unfolding opens
shares = refl
