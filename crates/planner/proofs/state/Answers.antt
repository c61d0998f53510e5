-- `planner::state` meets its contract: kind 9 is turned away by 3 to 6, or let in to `stated`.
use mathlib.Core.Path.{◌≡◌, refl, subst}
use mathlib.Core.List.{[], ◌∷◌}
use Rattle.meaning.specs.Job.{Job, job_of, stated_share}
use Rattle.meaning.specs.Lent.{lent_of}
use Rattle.meaning.specs.Refusals.{claims_fit, has_copies, knapsack_rules, rules_of}
use Rattle.meaning.specs.Solved.{Unrefused}
use Rattle.meaning.specs.SolvedIn.{SolvedInCellsBy}
use Rattle.planner.proofs.Preamble.{Lowest, let_in, turned_with, without_copies}
use Rattle.planner.proofs.Stating.{stated_lowest}
use Rattle.planner.proofs.state.Goals as goal
use Rattle.planner.proofs.state.Goals.{In_ok-stated_refusal}

lowest : (c : In_ok-stated_refusal) →
    let j = c.args.job.now in
    Lowest stated_share (job_of 9 (j.budget ∷ j.q ∷ []) j.weights j.values j.copies) (lent_of c.args.cells.now [] c.args.picks.now) 0
unfolding job_of
lowest c = stated_lowest _ c.args.cells.now [] c.args.picks.now _ refl c.in_ok-stated_refusal.ensures

-- it has no copies
alone : (c : In_ok-stated_refusal) →
    let j = c.args.job.now in
    job_of 9 (j.budget ∷ j.q ∷ []) j.weights j.values j.copies ≡ job_of 9 (j.budget ∷ j.q ∷ []) j.weights j.values []
unfolding has_copies knapsack_rules rules_of
alone c = without_copies 9 (c.args.job.now.budget ∷ c.args.job.now.q ∷ []) _ _ _ refl (lowest c) refl

pub returns-in_err-stated_refusal : goal.returns-in_err-stated_refusal
unfolding SolvedInCellsBy job_of
returns-in_err-stated_refusal c words =
    turned_with _ _ c.from_residual.ensures.1 (stated_lowest _ c.args.cells.now words c.args.picks.now _ refl c.in_err-stated_refusal.ensures)

pub solve-requires : goal.solve-requires
unfolding claims_fit knapsack_rules rules_of
solve-requires c =
    let here = (goal.at.solve-requires c).In_ok-stated_refusal in
    subst (λ (j : Job). Unrefused stated_share j (lent_of c.args.cells.now [] c.args.picks.now)) (alone here) (let_in (lowest here) refl refl)

pub returns : goal.returns
returns c = rw (alone (goal.at.returns c).In_ok-stated_refusal) c.solve.ensures
