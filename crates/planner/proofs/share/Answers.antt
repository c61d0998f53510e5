-- `planner::share` meets its contract: kind 7 is turned away by 3 to 6 and by 9, or let in to `shares`.
use mathlib.Core.Path.{◌≡◌, refl, subst, sym, ◌∙◌}
use mathlib.Core.Bool.{true}
use mathlib.Core.List.{List, [], ◌∷◌}
use Prim.Native.Nat.{ℕ}
use Rattle.meaning.specs.Job.{Job, sharing}
use Rattle.meaning.specs.Lent.{lent_of}
use Rattle.meaning.specs.Refusals.{claims_fit, rules_of, weight_rules}
use Rattle.meaning.specs.Job.{job_of}
use Rattle.meaning.specs.Solved.{Unrefused}
use Rattle.meaning.specs.SolvedIn.{SolvedInPicks}
use Rattle.numbers.specs.Lists.{job_as}
use Rattle.planner.proofs.Preamble.{Lowest, let_in, no_claims, turned_with, weights_alone}
use Rattle.planner.proofs.Arms.{shared}
use Rattle.planner.proofs.share.Goals as goal
use Rattle.planner.proofs.share.Goals.{In_ok-refusal}

lowest : (c : In_ok-refusal) (cells words : List ℕ) → Lowest sharing (job_as 7 c.args.job.now) (lent_of cells words c.args.picks.now) 0
lowest c cells words =
    shared c.args.job.now _ _ _ _ c.len-n.ensures c.shares_rules-rules.ensures (c.shares_room-room.ensures c.args.job.now.budget) c.args.picks.now
    (c.in_ok-refusal.ensures 7 true) cells words

-- the claims are all that it has
alone : (c : In_ok-refusal) → let j = c.args.job.now in job_as 7 j ≡ job_of 7 (j.budget ∷ []) j.weights [] []
unfolding rules_of weight_rules
alone c = weights_alone 7 c.args.job.now.budget _ _ _ refl refl (lowest c [] []) refl

pub returns-in_err-refusal : goal.returns-in_err-refusal
unfolding SolvedInPicks
returns-in_err-refusal c cells words =
    turned_with _ _ c.from_residual.ensures.1
    (shared c.args.job.now _ _ _ _ c.len-n.ensures c.shares_rules-rules.ensures (c.shares_room-room.ensures c.args.job.now.budget) c.args.picks.now
    (c.in_err-refusal.ensures 7 true) cells words)

pub returns-then-not-has_sum : goal.returns-then-not-has_sum
unfolding SolvedInPicks claims_fit rules_of weight_rules job_of
returns-then-not-has_sum c cells words =
    no_claims (lowest (goal.at.returns-then-not-has_sum c).In_ok-refusal cells words) refl (sym c.has_sum.ensures ∙ c.if-not-has_sum.true)

pub solve-requires : goal.solve-requires
unfolding claims_fit rules_of weight_rules job_of
solve-requires c =
    let here = (goal.at.solve-requires c).In_ok-refusal in
    subst (λ (j : Job). Unrefused sharing j (lent_of [] [] c.args.picks.now)) (alone here)
    (let_in (lowest here [] []) refl (sym c.has_sum.ensures ∙ c.if-not-has_sum.false))

pub returns : goal.returns
returns c = rw (alone (goal.at.returns c).In_ok-refusal) c.solve.ensures
