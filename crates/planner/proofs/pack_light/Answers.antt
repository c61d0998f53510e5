-- `planner::pack_light` meets its contract: kind 1 is turned away by 3 to 6, or let in to `light`.
use mathlib.Core.Path.{◌≡◌, refl, subst}
use mathlib.Core.Bool.{false}
use mathlib.Core.List.{[], ◌∷◌}
use Rattle.meaning.specs.Job.{Job, job_of, packing, once, kind_of, all_kinds}
use Rattle.meaning.specs.Lent.{lent_of}
use Rattle.meaning.specs.Refusals.{claims_fit, has_copies, knapsack_rules, rules_of}
use Rattle.meaning.specs.Solved.{Unrefused}
use Rattle.numbers.specs.Lists.{job_as}
use Rattle.planner.proofs.Preamble.{Lowest, let_in, turned_with, without_copies}
use Rattle.planner.proofs.Arms.{packed_light}
use Rattle.planner.proofs.pack_light.Goals as goal
use Rattle.planner.proofs.pack_light.Goals.{In_ok-refusal}

lowest : (c : In_ok-refusal) → Lowest (packing once) (job_as 1 c.args.job.now) (lent_of c.args.cells.now c.args.words.now c.args.picks.now) 0
unfolding all_kinds kind_of
lowest c =
    packed_light c.args.job.now _ _ _ _ c.len-n.ensures (c.knapsack_rules-rules.ensures once refl) c.light_room-room.ensures
    c.args.cells.now c.args.words.now c.args.picks.now (c.in_ok-refusal.ensures 1 false)

-- it has no copies
alone : (c : In_ok-refusal) → let j = c.args.job.now in job_as 1 j ≡ job_of 1 (j.budget ∷ []) j.weights j.values []
unfolding has_copies knapsack_rules rules_of
alone c = without_copies 1 (c.args.job.now.budget ∷ []) _ _ _ refl (lowest c) refl

pub returns-in_err-refusal : goal.returns-in_err-refusal
unfolding all_kinds kind_of
returns-in_err-refusal c =
    turned_with _ _ c.from_residual.ensures.1
    (packed_light c.args.job.now _ _ _ _ c.len-n.ensures (c.knapsack_rules-rules.ensures once refl) c.light_room-room.ensures
    c.args.cells.now c.args.words.now c.args.picks.now (c.in_err-refusal.ensures 1 false))

pub solve-requires : goal.solve-requires
unfolding claims_fit knapsack_rules rules_of
solve-requires c =
    let here = (goal.at.solve-requires c).In_ok-refusal in
    subst (λ (j : Job). Unrefused (packing once) j (lent_of c.args.cells.now c.args.words.now c.args.picks.now)) (alone here)
    (let_in (lowest here) refl refl)

pub returns : goal.returns
returns c = rw (alone (goal.at.returns c).In_ok-refusal) c.solve.ensures
