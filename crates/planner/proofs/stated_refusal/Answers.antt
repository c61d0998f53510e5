-- `planner::stated_refusal` meets its contract: 3 to 5 as kind 1 is asked, 5 by q, 6 by the room that the job's numbers need.
use mathlib.Core.Path.{refl, sym, ◌∙◌}
use native.Mathlib.Omega.{arith}
use Rattle.std.proofs.lemmas.Result.{err_from_is_err_and}
use Rattle.meaning.proofs.Refusing.{some_number}
use Rattle.planner.proofs.Stating.{all_room, let_to_measure, no_cells, no_picks, one_of_kind_1, wrong_q}
use Rattle.planner.proofs.stated_refusal.Goals as goal

pub returns-in_err-job_refusal : goal.returns-in_err-job_refusal
returns-in_err-job_refusal c =
    let p = err_from_is_err_and c.from_residual.result c.from_residual.ensures.1 in
    rw (p.1, p.2)
    (one_of_kind_1 c.args.job.now _ _ _ _ c.knapsack_rules-rules.ensures c.in_err-job_refusal.ensures
    (λ none. omega (arith, some_number c.in_err-job_refusal.field-0.0)))

pub returns-then-not-q_fits : goal.returns-then-not-q_fits
returns-then-not-q_fits c =
    wrong_q c.args.job.now _ 0 _ _ c.knapsack_rules-rules.ensures c.in_ok-job_refusal.ensures refl (sym c.q_fits.ensures ∙ c.if-not-q_fits.true)

pub cells_needed-needed-requires : goal.cells_needed-needed-requires
cells_needed-needed-requires c =
    let within = sym c.q_fits.ensures ∙ c.if-not-q_fits.false in
    let_to_measure c.args.job.now _ 0 0 0 c.knapsack_rules-rules.ensures c.in_ok-job_refusal.ensures refl within

pub returns-then-cells-needed : goal.returns-then-cells-needed
returns-then-cells-needed c =
    no_cells c.args.job.now _ 0 _ _ c.knapsack_rules-rules.ensures c.in_ok-job_refusal.ensures refl (sym c.q_fits.ensures ∙ c.if-not-q_fits.false)
    c.cells_needed-needed.ensures (omega arith)

pub returns-then-picks-len : goal.returns-then-picks-len
returns-then-picks-len c =
    no_picks c.args.job.now _ 0 _ _ c.knapsack_rules-rules.ensures c.in_ok-job_refusal.ensures refl (sym c.q_fits.ensures ∙ c.if-not-q_fits.false)
    c.cells_needed-needed.ensures (omega arith) (omega (arith, c.len.ensures))

pub returns : goal.returns
returns c =
    all_room c.args.job.now _ 0 _ _ c.knapsack_rules-rules.ensures c.in_ok-job_refusal.ensures refl (sym c.q_fits.ensures ∙ c.if-not-q_fits.false)
    c.cells_needed-needed.ensures (omega arith) (omega (arith, c.len.ensures))
