-- What a kind's own crate promises: the planner's promise, said of the slices that the kind uses. The others, whatever they hold, stay.
-- Assumes nothing.
use Rattle.std.specs.Prelude.{List, ℕ}
use Rattle.meaning.specs.Says.{Answer}
use Rattle.meaning.specs.declared.Way.{Way}
use Rattle.meaning.specs.declared.Way.TheVariants.{Light}
use Rattle.meaning.specs.Job.{Job}
use Rattle.meaning.specs.Lent.{lent_of}
use Rattle.meaning.specs.Solved.{SolvedBy, Solved}

-- kinds 2, 3, 5, 8 and 9 use cells and picks, and so does kind 1 by the full way; by the light way it uses all three
unfoldable pub SolvedInCellsBy : Way → Job → List ℕ → List ℕ → Answer → List ℕ → List ℕ → Type 0
SolvedInCellsBy way j cells picks a cells-after picks-after =
    (words : List ℕ) → SolvedBy way j (lent_of cells words picks) a (lent_of cells-after words picks-after)

-- of a kind that goes one way
abbrev pub SolvedInCells : Job → List ℕ → List ℕ → Answer → List ℕ → List ℕ → Type 0
SolvedInCells j cells picks a cells-after picks-after = SolvedInCellsBy Light j cells picks a cells-after picks-after

-- kinds 4 and 6 use words
unfoldable pub SolvedInWords : Job → List ℕ → Answer → List ℕ → Type 0
SolvedInWords j words a words-after = (cells picks : List ℕ) → Solved j (lent_of cells words picks) a (lent_of cells words-after picks)

-- kind 7 uses picks
unfoldable pub SolvedInPicks : Job → List ℕ → Answer → List ℕ → Type 0
SolvedInPicks j picks a picks-after = (cells words : List ℕ) → Solved j (lent_of cells words picks) a (lent_of cells words picks-after)
