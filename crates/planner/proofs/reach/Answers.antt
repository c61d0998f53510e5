-- `planner::reach` meets its contract: kind 4 is turned away by 3 to 6, or let in to `sums`.
use mathlib.Core.Path.{◌≡◌, refl, subst}
use mathlib.Core.Bool.{false}
use mathlib.Core.List.{[], ◌∷◌}
use Rattle.meaning.specs.Job.{Job, job_of, subset_sums}
use Rattle.meaning.specs.Lent.{lent_of}
use Rattle.meaning.specs.Refusals.{claims_fit, rules_of, weight_rules}
use Rattle.meaning.specs.Solved.{Unrefused}
use Rattle.meaning.specs.SolvedIn.{SolvedInWords}
use Rattle.numbers.specs.Lists.{job_as}
use Rattle.planner.proofs.Preamble.{Lowest, let_in, turned_with, weights_alone}
use Rattle.planner.proofs.Arms.{reached}
use Rattle.planner.proofs.reach.Goals as goal
use Rattle.planner.proofs.reach.Goals.{In_ok-refusal}

lowest : (c : In_ok-refusal) → Lowest subset_sums (job_as 4 c.args.job.now) (lent_of [] c.args.words.now []) 0
lowest c =
    reached c.args.job.now _ _ _ c.sums_rules-rules.ensures.0 c.sums_room-room.ensures c.args.words.now (c.in_ok-refusal.ensures 4 false) [] []

-- the weights are all that it has
alone : (c : In_ok-refusal) → let j = c.args.job.now in job_as 4 j ≡ job_of 4 (j.budget ∷ []) j.weights [] []
unfolding rules_of weight_rules
alone c = weights_alone 4 c.args.job.now.budget _ _ _ refl refl (lowest c) refl

pub returns-in_err-refusal : goal.returns-in_err-refusal
unfolding SolvedInWords
returns-in_err-refusal c cells picks =
    let asked = c.in_err-refusal.ensures 4 false in
    turned_with _ _ c.from_residual.ensures.1
    (reached c.args.job.now _ _ _ c.sums_rules-rules.ensures.0 c.sums_room-room.ensures c.args.words.now asked cells picks)

pub solve-requires : goal.solve-requires
unfolding claims_fit rules_of weight_rules
solve-requires c =
    let here = (goal.at.solve-requires c).In_ok-refusal in
    subst (λ (j : Job). Unrefused subset_sums j (lent_of [] c.args.words.now [])) (alone here) (let_in (lowest here) refl refl)

pub returns : goal.returns
returns c = rw (alone (goal.at.returns c).In_ok-refusal) c.solve.ensures
