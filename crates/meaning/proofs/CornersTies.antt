-- Small choices that aren't among the sixteen trials: picks of nothing, and ties that each order would settle in another way.
-- Assumes nothing.
use mathlib.Core.List.{[], ◌∷◌}
use Rattle.meaning.specs.Job.{once, free, limited}
use Rattle.meaning.specs.Knapsacks.{BestPicks}
use Rattle.meaning.specs.Behind.{Behind}
use Rattle.meaning.specs.Blocks.{Laid}
use Rattle.meaning.proofs.Small.{behind_out, is_behind, is_laid, laid_out, picked, picked_out}
use Rattle.meaning.proofs.Opens.{opens}
use Rattle.meaning.proofs.Cases.{plain}

empty_picks : BestPicks once (plain 1 5 [] [] []) 0 5 []
unfolding opens picked
empty_picks = picked_out once _ _ tt

-- a weight above C never fits; a label worth 0 is left out
heavy_and_worthless : BestPicks once (plain 1 5 (9 ∷ 2 ∷ 3 ∷ []) (9 ∷ 1 ∷ 0 ∷ []) []) 3 5 (0 ∷ 1 ∷ 0 ∷ [])
unfolding opens picked
heavy_and_worthless = picked_out once _ _ tt

-- ties: jobs whose best lists each order would settle in another way
tie_once : BestPicks once (plain 1 5 (1 ∷ 2 ∷ 3 ∷ 4 ∷ 5 ∷ []) (1 ∷ 2 ∷ 3 ∷ 4 ∷ 5 ∷ []) []) 5 5 (0 ∷ 1 ∷ 1 ∷ 0 ∷ 0 ∷ [])
unfolding opens picked
tie_once = picked_out once _ _ tt

tie_limited : BestPicks limited (plain 2 14 (3 ∷ 4 ∷ 5 ∷ []) (3 ∷ 4 ∷ 5 ∷ []) (4 ∷ 4 ∷ 4 ∷ [])) 3 14 (2 ∷ 2 ∷ 0 ∷ [])
unfolding opens picked
tie_limited = picked_out limited _ _ tt

tie_free : BestPicks free (plain 3 14 (3 ∷ 4 ∷ 5 ∷ []) (3 ∷ 4 ∷ 5 ∷ []) []) 3 14 (3 ∷ 0 ∷ 1 ∷ [])
unfolding opens picked
tie_free = picked_out free _ _ tt

tie_blocks : Laid (plain 5 24 (3 ∷ 5 ∷ 9 ∷ 11 ∷ []) [] []) 24 (1 ∷ 2 ∷ 0 ∷ 1 ∷ [])
unfolding opens is_laid
tie_blocks = laid_out _ _ tt

no_blocks : Laid (plain 5 0 (5 ∷ 10 ∷ []) [] []) 0 (0 ∷ 0 ∷ [])
unfolding opens is_laid
no_blocks = laid_out _ _ tt

-- the last of five labels weighs C alone, and so do the first and the fourth
tie_behind : Behind (plain 8 5 (1 ∷ 2 ∷ 3 ∷ 4 ∷ 5 ∷ []) [] []) 5 5 (0 ∷ 1 ∷ 1 ∷ 0 ∷ 0 ∷ [])
unfolding opens is_behind
tie_behind = behind_out _ _ tt

-- total 0 takes no labels, of some or of none
none_behind : Behind (plain 8 0 (1 ∷ 2 ∷ []) [] []) 2 0 (0 ∷ 0 ∷ [])
unfolding opens is_behind
none_behind = behind_out _ _ tt

none_of_none : Behind (plain 8 0 [] [] []) 0 0 []
unfolding opens is_behind
none_of_none = behind_out _ _ tt
