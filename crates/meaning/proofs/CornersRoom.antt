-- Corner cases of the room (6): just enough, and one place short.
-- Assumes nothing.
use mathlib.Core.Path.{refl}
use mathlib.Core.List.{[], ◌∷◌}
use Rattle.meaning.specs.declared.Way.TheVariants.{Full}
use Rattle.meaning.proofs.Opens.{opens}
use Rattle.meaning.proofs.Cases.{plain}
use Rattle.meaning.proofs.Computing.{Computes, ◌gives◌, refusal_by, refusal_of, room}

-- 6: the room
refusal_6 : Computes refusal_of (
    (plain 1 3 (1 ∷ 1 ∷ []) (1 ∷ 1 ∷ []) [], room 4 2 2) gives 0  -- kind 1: just enough
    ∷ (plain 1 3 (1 ∷ 1 ∷ []) (1 ∷ 1 ∷ []) [], room 3 9 9) gives 6  -- one cell short
    ∷ (plain 1 3 (1 ∷ 1 ∷ []) (1 ∷ 1 ∷ []) [], room 99 1 9) gives 6  -- one word short: each label has its own
    ∷ (plain 1 3 (1 ∷ 1 ∷ []) (1 ∷ 1 ∷ []) [], room 99 9 1) gives 6  -- one pick short
    ∷ (plain 1 63 (1 ∷ 1 ∷ []) (1 ∷ 1 ∷ []) [], room 64 2 2) gives 0  -- one word for the budgets to 63
    ∷ (plain 1 64 (1 ∷ 1 ∷ []) (1 ∷ 1 ∷ []) [], room 65 4 2) gives 0  -- two for those to 64
    ∷ (plain 1 64 (1 ∷ 1 ∷ []) (1 ∷ 1 ∷ []) [], room 99 3 9) gives 6  -- one word short
    ∷ (plain 1 0 [] [] [], room 1 0 0) gives 0  -- no labels
    ∷ (plain 2 3 (1 ∷ 1 ∷ []) (1 ∷ 1 ∷ []) (1 ∷ 1 ∷ []), room 12 0 2) gives 0  -- kind 2: just enough
    ∷ (plain 2 3 (1 ∷ 1 ∷ []) (1 ∷ 1 ∷ []) (1 ∷ 1 ∷ []), room 11 9 9) gives 6  -- one cell short
    ∷ (plain 2 3 (1 ∷ 1 ∷ []) (1 ∷ 1 ∷ []) (1 ∷ 1 ∷ []), room 99 9 1) gives 6  -- one pick short
    ∷ (plain 3 3 (1 ∷ 1 ∷ []) (1 ∷ 1 ∷ []) [], room 4 0 2) gives 0  -- kind 3: just enough
    ∷ (plain 3 3 (1 ∷ 1 ∷ []) (1 ∷ 1 ∷ []) [], room 3 9 9) gives 6  -- one cell short
    ∷ (plain 3 3 (1 ∷ 1 ∷ []) (1 ∷ 1 ∷ []) [], room 99 9 1) gives 6  -- one pick short
    ∷ (plain 4 63 (1 ∷ 1 ∷ []) [] [], room 0 1 0) gives 0  -- kind 4: one word for the totals to 63, and no picks
    ∷ (plain 4 63 (1 ∷ 1 ∷ []) [] [], room 99 0 99) gives 6  -- no word
    ∷ (plain 4 64 (1 ∷ 1 ∷ []) [] [], room 0 2 0) gives 0  -- two words for the totals to 64
    ∷ (plain 4 64 (1 ∷ 1 ∷ []) [] [], room 99 1 99) gives 6  -- one word short
    ∷ (plain 4 0 [] [] [], room 0 1 0) gives 0  -- no labels
    ∷ (plain 5 3 (1 ∷ 2 ∷ []) [] [], room 4 0 2) gives 0  -- kind 5: just enough
    ∷ (plain 5 3 (1 ∷ 2 ∷ []) [] [], room 3 9 9) gives 6  -- one cell short
    ∷ (plain 5 3 (1 ∷ 2 ∷ []) [] [], room 99 9 1) gives 6  -- one pick short
    ∷ (plain 5 0 [] [] [], room 1 0 0) gives 0  -- no sizes
    ∷ (plain 6 3 (1 ∷ 2 ∷ []) [] [], room 0 4 0) gives 0  -- kind 6: just enough, and no picks
    ∷ (plain 6 3 (1 ∷ 2 ∷ []) [] [], room 99 3 99) gives 6  -- one word short
    ∷ (plain 6 0 [] [] [], room 0 1 0) gives 0  -- no sizes
    ∷ (plain 7 3 (1 ∷ 1 ∷ []) [] [], room 0 0 2) gives 0  -- kind 7: just enough
    ∷ (plain 7 3 (1 ∷ 1 ∷ []) [] [], room 99 99 1) gives 6  -- one pick short
    ∷ (plain 8 3 (1 ∷ 1 ∷ []) [] [], room 4 0 2) gives 0  -- kind 8: just enough
    ∷ (plain 8 3 (1 ∷ 1 ∷ []) [] [], room 3 9 9) gives 6  -- one cell short
    ∷ (plain 8 3 (1 ∷ 1 ∷ []) [] [], room 99 9 1) gives 6  -- one pick short
    ∷ (plain 8 0 [] [] [], room 1 0 0) gives 0  -- no labels
    ∷ []
    )
unfolding opens
refusal_6 = refl

-- by the full way kind 1 needs cells and picks
refusal_6_full : Computes (refusal_by Full) (
    (plain 1 3 (1 ∷ 1 ∷ []) (1 ∷ 1 ∷ []) [], room 12 0 2) gives 0  -- just enough
    ∷ (plain 1 3 (1 ∷ 1 ∷ []) (1 ∷ 1 ∷ []) [], room 11 9 9) gives 6  -- one cell short
    ∷ (plain 1 3 (1 ∷ 1 ∷ []) (1 ∷ 1 ∷ []) [], room 99 9 1) gives 6  -- one pick short
    ∷ (plain 1 0 [] [] [], room 1 0 0) gives 0  -- no labels
    ∷ (plain 4 64 (1 ∷ 1 ∷ []) [] [], room 99 1 99) gives 6  -- other kinds as ever
    ∷ []
    )
unfolding opens
refusal_6_full = refl
