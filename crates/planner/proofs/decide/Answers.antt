-- `planner::decide` meets its contract: each arm's promise is that of its kinds, and what no arm takes is no kind.
use mathlib.Core.Path.{refl}
use mathlib.Core.Logic.{inl, inr}
use native.Mathlib.Omega.{arith}
use Rattle.meaning.specs.Job.{job_of, all_kinds}
use Rattle.meaning.specs.SolvedIn.{SolvedInCellsBy, SolvedInWords, SolvedInPicks}
use Rattle.meaning.proofs.Budgets.{q_ignored}
use Rattle.meaning.proofs.Laws.{no_kind, solved_no_kind}
use Rattle.planner.proofs.Preamble.{of_arm_with, of_arm_without}
use Rattle.planner.proofs.decide.Goals as goal

pub returns-in-4 : goal.returns-in-4
unfolding SolvedInWords
returns-in-4 c =
    of_arm_without _ c.args.job.now 4 _ _ _ c.in-4.is (λ one. absurd (omega arith)) (λ nine. absurd (omega arith))
    (c.reach.ensures c.args.cells.now c.args.picks.now)

pub returns-in-7 : goal.returns-in-7
unfolding SolvedInPicks
returns-in-7 c =
    of_arm_without _ c.args.job.now 7 _ _ _ c.in-7.is (λ one. absurd (omega arith)) (λ nine. absurd (omega arith))
    (c.share.ensures c.args.cells.now c.args.words.now)

pub returns-in-8 : goal.returns-in-8
unfolding SolvedInCellsBy
returns-in-8 c =
    of_arm_without _ c.args.job.now 8 _ _ _ c.in-8.is (λ one. absurd (omega arith)) (λ nine. absurd (omega arith)) (c.show.ensures c.args.words.now)

pub returns-in-9 : goal.returns-in-9
unfolding SolvedInCellsBy
returns-in-9 c = of_arm_with _ c.args.job.now 9 _ _ _ c.in-9.is (λ one. absurd (omega arith)) (c.state.ensures c.args.words.now)

pub returns-in-1-to-3 : goal.returns-in-1-to-3
returns-in-1-to-3 c =
    let j = c.args.job.now in
    rw (← q_ignored j.kind j.weights j.values j.copies (λ nine. absurd (omega arith)) j.budget j.q) c.pack.ensures

pub returns-in-5 : goal.returns-in-5
returns-in-5 c =
    of_arm_without _ c.args.job.now c.args.job.now.kind _ _ _ refl (λ one. absurd (omega arith)) (λ nine. absurd (omega arith)) c.lay.ensures

pub returns-in_default : goal.returns-in_default
unfolding job_of
returns-in_default c = solved_no_kind _ _ (no_kind c.args.job.now.kind (inl (omega arith)))

pub returns-in_default-2 : goal.returns-in_default-2
unfolding all_kinds job_of
returns-in_default-2 c = solved_no_kind _ _ (no_kind c.args.job.now.kind (inr (omega arith)))
