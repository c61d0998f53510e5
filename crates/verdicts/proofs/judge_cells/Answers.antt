-- `verdicts::judge_cells` meets its contract, refusal by refusal.
use mathlib.Core.Path.{◌≡◌, sym, ap, ◌∙◌}
use mathlib.Core.Option.{none}
use Prim.Native.Nat.{ℕ, ◌≤◌, ◌-◌}
use native.Mathlib.Omega.{arith}
use lib.ListN.{length}
use Rattle.meaning.specs.Lists.{at, total}
use Rattle.meaning.specs.Job.{job_of, labels}
use Rattle.meaning.specs.Bytes.{numbers_in}
use Rattle.meaning.specs.Certificates.{cell_at, over_picked, low_cell}
use Rattle.meaning.proofs.Numbers.{numbers_long}
use Rattle.verdicts.specs.Asked.{certified, knapsack_in}
use Rattle.verdicts.specs.Searching.{place_of}
use Rattle.verdicts.proofs.Taken.{copied, valid_read}
use Rattle.verdicts.proofs.Judging.{over_12, heavy_13, low_14, other_15, accepts, few_weights, few_values, last_cell, some_cell}
use Rattle.verdicts.proofs.judge_cells.Goals as goal
use Rattle.verdicts.proofs.judge_cells.Goals.{In_default, Else-job-picked, In_default-low_cell, After-number_in-value}

-- ---- what each refusal that is not met leaves known

none_over : (c : In_default) → over_picked (knapsack_in c.args.job.now.kind) (certified c.args.job.now) c.args.picks.now ≡ none
unfolding place_of
none_over c = sym c.over_picked.ensures ∙ ap place_of c.in_default.is

light : (c : Else-job-picked) → total c.args.job.now.weights c.args.picks.now ≤ c.args.job.now.budget
light c = omega (arith, c.picked.ensures, c.if-job-picked.false)

none_low : (c : In_default-low_cell) → low_cell (knapsack_in c.args.job.now.kind) (certified c.args.job.now) (numbers_in c.args.cells.now) ≡ none
unfolding place_of
none_low c = sym c.low_cell.ensures ∙ ap place_of c.in_default-low_cell.is

some_claim : (c : In_default-low_cell) → 1 ≤ length (numbers_in c.args.cells.now)
some_claim c = some_cell (certified c.args.job.now) _ (knapsack_in c.args.job.now.kind) c.requires.cells_read.long

last_read : (c : After-number_in-value) →
    let job = certified c.args.job.now in
    c.number_in-value.result ≡ cell_at (knapsack_in c.args.job.now.kind) job (numbers_in c.args.cells.now) (labels job) job.budget
last_read c =
    let cells = numbers_in c.args.cells.now in
    c.number_in-value.ensures ∙ ap (λ (k : ℕ). at cells (k - 1)) (sym (numbers_long c.args.cells.now))
    ∙ last_cell (certified c.args.job.now) cells (knapsack_in c.args.job.now.kind) c.requires.cells_read.long

-- ---- refusal by refusal

pub over_picked-requires : goal.over_picked-requires
unfolding job_of labels
over_picked-requires c =
    let all = sym c.requires.picks_len in (λ is-limited. copied (valid_read c.requires.cells_read) is-limited ∙ all, all)

pub returns-in-Some : goal.returns-in-Some
unfolding place_of
returns-in-Some c =
    rw (c.fault_at.ensures.0, c.fault_at.ensures.1) (over_12 _ _ _ _ _ (sym c.over_picked.ensures ∙ ap place_of c.in-Some.is))

pub picked-requires : goal.picked-requires
unfolding job_of labels
picked-requires c = few_weights _ (valid_read c.requires.cells_read) _ c.requires.picks_len (none_over (goal.at.picked-requires c).In_default)

pub returns-then-job-picked : goal.returns-then-job-picked
unfolding job_of
returns-then-job-picked c =
    let fault = c.fault_at-then-job-picked.ensures in
    let none-12 = none_over (goal.at.returns-then-job-picked c).In_default in
    rw (fault.0, fault.1) (heavy_13 _ _ _ _ none-12 (omega (arith, c.picked.ensures, c.if-job-picked.true)))

pub returns-in-Some-low_cell : goal.returns-in-Some-low_cell
unfolding job_of place_of
returns-in-Some-low_cell c =
    let here = goal.at.returns-in-Some-low_cell c in
    let fault = c.fault_at-in-Some-low_cell.ensures in
    let low = sym c.low_cell.ensures ∙ ap place_of c.in-Some-low_cell.is in
    rw (fault.0, fault.1) (low_14 _ _ _ _ (none_over here.In_default) (light here.Else-job-picked) _ low)

pub overflow_sub-cells : goal.overflow_sub-cells
overflow_sub-cells c = omega (arith, numbers_long c.args.cells.now, some_claim c)

pub number_in-value-requires : goal.number_in-value-requires
number_in-value-requires c =
    omega (arith, numbers_long c.args.cells.now, some_claim (goal.at.number_in-value-requires c).In_default-low_cell)

pub picked-requires-2 : goal.picked-requires-2
unfolding job_of labels
picked-requires-2 c =
    few_values _ (valid_read c.requires.cells_read) _ c.requires.picks_len (none_over (goal.at.picked-requires-2 c).In_default)

pub returns-then-value-picked : goal.returns-then-value-picked
unfolding job_of
returns-then-value-picked c =
    let here = goal.at.returns-then-value-picked c in
    let fault = c.fault_at-then-value-picked.ensures in
    let last = last_read here.After-number_in-value in
    rw (fault.0, fault.1)
    (other_15 _ _ _ _ (none_over here.In_default) (light here.Else-job-picked) (none_low here.In_default-low_cell) _ last
    (λ e. c.if-value-picked.true (e ∙ sym c.picked-2.ensures)))

pub returns : goal.returns
unfolding job_of
returns c =
    let here = goal.at.returns c in
    let last = last_read here.After-number_in-value in
    accepts _ _ _ _ (none_over here.In_default) (light here.Else-job-picked) (none_low here.In_default-low_cell) _ last
    (c.if-value-picked.false ∙ c.picked-2.ensures)
