-- `blocks::solve` meets its contract: a job that is let in is of kind 5 or of kind 6, and the slices that its kind isn't lent stay.
use mathlib.Core.Path.{◌≡◌}
use mathlib.Core.List.{[], ◌∷◌}
use Rattle.meaning.specs.Job.{job_of, block_ways}
use Rattle.meaning.specs.Lent.{lent_of}
use Rattle.meaning.specs.Solved.{Unrefused}
use Rattle.meaning.specs.SolvedIn.{SolvedInCellsBy, SolvedInWords}
use Rattle.blocks.proofs.BlocksDoor.{asks_blocks, asks_ways}
use Rattle.blocks.proofs.solve.Goals as goal

pub fewest-requires : goal.fewest-requires
fewest-requires c =
    let a = c.args in
    asks_blocks a.budget a.kind c.args.weights.now a.cells.now a.words.now a.picks.now c.if-kind-eq5.true c.requires

pub returns-then-kind-eq5 : goal.returns-then-kind-eq5
unfolding SolvedInCellsBy
returns-then-kind-eq5 c =
    let kind : c.args.kind ≡ 5 = c.if-kind-eq5.true in
    rw kind (c.fewest.ensures c.args.words.now)

pub ways-requires : goal.ways-requires
ways-requires c =
    let asked : (c.args.kind ≡ 6) × Unrefused block_ways (job_of 6 (c.args.budget ∷ []) c.args.weights.now [] []) (lent_of [] c.args.words.now []) = let a = c.args in
    asks_ways a.budget a.kind c.args.weights.now a.cells.now a.words.now a.picks.now c.if-kind-eq5.false c.requires in
    asked.1

pub returns : goal.returns
unfolding SolvedInWords
returns c =
    let asked : (c.args.kind ≡ 6) × Unrefused block_ways (job_of 6 (c.args.budget ∷ []) c.args.weights.now [] []) (lent_of [] c.args.words.now []) = let a = c.args in
    asks_ways a.budget a.kind c.args.weights.now a.cells.now a.words.now a.picks.now c.if-kind-eq5.false c.requires in
    let kind : c.args.kind ≡ 6 = asked.0 in
    rw kind (c.ways.ensures c.args.cells.now c.args.picks.now)
