-- `planner::show` meets its contract: kind 8 is turned away by 3 to 6, or let in to `behind`.
use mathlib.Core.Path.{◌≡◌, refl, subst}
use mathlib.Core.Bool.{false}
use mathlib.Core.List.{[], ◌∷◌}
use Rattle.meaning.specs.Job.{Job, job_of, labels_behind}
use Rattle.meaning.specs.Lent.{lent_of}
use Rattle.meaning.specs.Refusals.{claims_fit, rules_of, weight_rules}
use Rattle.meaning.specs.Solved.{Unrefused}
use Rattle.meaning.specs.SolvedIn.{SolvedInCellsBy}
use Rattle.numbers.specs.Lists.{job_as}
use Rattle.planner.proofs.Preamble.{Lowest, let_in, turned_with, weights_alone}
use Rattle.planner.proofs.Arms.{shown}
use Rattle.planner.proofs.show.Goals as goal
use Rattle.planner.proofs.show.Goals.{In_ok-refusal}

lowest : (c : In_ok-refusal) → Lowest labels_behind (job_as 8 c.args.job.now) (lent_of c.args.cells.now [] c.args.picks.now) 0
lowest c =
    shown c.args.job.now _ _ _ _ c.len-n.ensures c.sums_rules-rules.ensures.1 c.row_room-room.ensures.1 c.args.cells.now c.args.picks.now
    (c.in_ok-refusal.ensures 8 false) []

-- the weights are all that it has
alone : (c : In_ok-refusal) → let j = c.args.job.now in job_as 8 j ≡ job_of 8 (j.budget ∷ []) j.weights [] []
unfolding rules_of weight_rules
alone c = weights_alone 8 c.args.job.now.budget _ _ _ refl refl (lowest c) refl

pub returns-in_err-refusal : goal.returns-in_err-refusal
unfolding SolvedInCellsBy
returns-in_err-refusal c words =
    turned_with _ _ c.from_residual.ensures.1
    (shown c.args.job.now _ _ _ _ c.len-n.ensures c.sums_rules-rules.ensures.1 c.row_room-room.ensures.1 c.args.cells.now c.args.picks.now
    (c.in_err-refusal.ensures 8 false) words)

pub solve-requires : goal.solve-requires
unfolding claims_fit rules_of weight_rules
solve-requires c =
    let here = (goal.at.solve-requires c).In_ok-refusal in
    subst (λ (j : Job). Unrefused labels_behind j (lent_of c.args.cells.now [] c.args.picks.now)) (alone here) (let_in (lowest here) refl refl)

pub returns : goal.returns
returns c = rw (alone (goal.at.returns c).In_ok-refusal) c.solve.ensures
