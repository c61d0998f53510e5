-- `planner::lay` meets its contract: kinds 5 and 6 are turned away by 3 to 6, or let in to `blocks`.
use mathlib.Core.Path.{◌≡◌, refl, subst}
use mathlib.Core.List.{[], ◌∷◌}
use mathlib.Core.Bool.{false}
use Rattle.meaning.specs.Job.{Job, job_of}
use Rattle.meaning.specs.Lent.{lent_of}
use Rattle.meaning.specs.Solved.{Unrefused}
use Rattle.numbers.specs.Lists.{job_as}
use Rattle.planner.proofs.Preamble.{Lowest, let_in, turned_with, weights_alone}
use Rattle.planner.proofs.Laying.{five_or_six, laid_alone, laid_claims, laid_in, laid_room, laid_rules}
use Rattle.planner.proofs.Arms.{laid}
use Rattle.planner.proofs.lay.Goals as goal
use Rattle.planner.proofs.lay.Goals.{In_ok-refusal}

lowest : (c : In_ok-refusal) →
    let a = c.args in
    let k = five_or_six a.job.now.kind c.requires.0 c.requires.1 in
    Lowest k.which (job_as a.job.now.kind a.job.now) (lent_of a.cells.now a.words.now a.picks.now) 0
lowest c =
    let k = five_or_six c.args.job.now.kind c.requires.0 c.requires.1 in
    laid c.args.job.now _ _ _ _ c.len-n.ensures k (laid_rules k.is _ c.blocks_rules-rules.ensures) (laid_room k.is _ _ _ c.blocks_room-room.ensures)
    c.args.cells.now c.args.words.now c.args.picks.now (c.in_ok-refusal.ensures c.args.job.now.kind false)

-- the sizes are all that it has
alone : (c : In_ok-refusal) → let j = c.args.job.now in job_as j.kind j ≡ job_of j.kind (j.budget ∷ []) j.weights [] []
alone c =
    let k = five_or_six c.args.job.now.kind c.requires.0 c.requires.1 in
    let (no-values, no_copies) = laid_alone k.is in
    weights_alone c.args.job.now.kind c.args.job.now.budget _ _ _ no-values no_copies (lowest c) refl

pub returns-in_err-refusal : goal.returns-in_err-refusal
returns-in_err-refusal c =
    let k = five_or_six c.args.job.now.kind c.requires.0 c.requires.1 in
    turned_with _ _ c.from_residual.ensures.1
    (laid c.args.job.now _ _ _ _ c.len-n.ensures k (laid_rules k.is _ c.blocks_rules-rules.ensures) (laid_room k.is _ _ _ c.blocks_room-room.ensures)
    c.args.cells.now c.args.words.now c.args.picks.now (c.in_err-refusal.ensures c.args.job.now.kind false))

pub solve-requires : goal.solve-requires
solve-requires c =
    let k = five_or_six c.args.job.now.kind c.requires.0 c.requires.1 in
    let here = (goal.at.solve-requires c).In_ok-refusal in
    laid_in k.is _ _
    (subst (λ (j : Job). Unrefused k.which j (lent_of c.args.cells.now c.args.words.now c.args.picks.now)) (alone here)
    (let_in (lowest here) refl (laid_claims k.is _)))

pub returns : goal.returns
returns c = rw (alone (goal.at.returns c).In_ok-refusal) c.solve.ensures
