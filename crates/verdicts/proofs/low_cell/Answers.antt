-- `verdicts::low_cell` meets its contract: at every way out, rule 14 is kept at every cell before.
use mathlib.Core.Path.{sym, ◌∙◌}
use Prim.Native.Nat.{◌+◌, ◌/◌}
use native.Mathlib.Omega.{arith}
use lib.ListN.{length}
use Rattle.meaning.specs.Job.{job_of}
use Rattle.meaning.specs.Bytes.{numbers_in}
use Rattle.meaning.proofs.Numbers.{numbers_long}
use Rattle.verdicts.specs.Asked.{certified, knapsack_in, Run}
use Rattle.verdicts.proofs.LowCells.{middle_between, half_run, half_low, half_kept, found_low}
use Rattle.verdicts.proofs.LowCells.{RowsKept, rows_start, rows_run, rows_narrow, rows_next, rows_end}
use Rattle.verdicts.proofs.low_cell.Goals as goal
use Rattle.verdicts.proofs.low_cell.Goals.{After-min-last, After-budgets}

-- ---- what several answers ask

-- the cells that are passed at once
passed : (c : After-min-last) → Run (knapsack_in c.args.job.now.kind) (certified c.args.job.now) c.rows.from c.min-last.result
unfolding job_of
passed c =
    let run_is = c.run_length-run.ensures in
    rows_run _ _ _ c.requires _ (numbers_long _) _ _ _ run_is.0 (omega (arith, c.rows-test.true)) c.min-last.ensures c.rows.invariant run_is.1.0

-- a row was passed
next : (c : After-budgets)
    → RowsKept c.args.job.now.kind (certified c.args.job.now) (numbers_in c.args.cells.now) c.budgets.found-1 (c.rows.from + c.run_length-run.result)
    (length c.args.cells.now / 4)
unfolding job_of
next c =
    let run_is = c.run_length-run.ensures in
    rows_next _ _ _ c.requires _ (numbers_long _) _ _ _ run_is.0 (omega (arith, c.rows-test.true)) c.min-last.ensures c.rows.invariant
    _ _ c.budgets-test.false c.budgets.invariant

-- ---- the rows

pub rows-init : goal.rows-init
rows-init c = rows_start _ _ _ _

pub search_from-kept-requires-clause-run : goal.search_from-kept-requires-clause-run
search_from-kept-requires-clause-run c = passed c

pub rows-preserved : goal.rows-preserved
rows-preserved c = next (goal.at.rows-preserved c).After-budgets

pub returns : goal.returns
returns c = rows_end _ _ _ c.requires _ (numbers_long _) _ (omega (arith, c.rows-test.false)) c.rows.invariant

-- the last one was passed
pub returns-2 : goal.returns-2
returns-2 c = rows_end _ _ _ c.requires _ (numbers_long _) _ (omega arith) (next (goal.at.returns-2 c).After-budgets)

-- ---- the halves of one

pub budgets-init : goal.budgets-init
unfolding job_of
budgets-init c =
    let run_is = c.run_length-run.ensures in
    rows_narrow _ _ _ c.requires _ (numbers_long _) _ _ _ run_is.0 (omega (arith, c.rows-test.true)) c.min-last.ensures c.rows.invariant run_is.1.0 _
    c.search_from-kept.ensures

pub is_low-requires-clause-run : goal.is_low-requires-clause-run
is_low-requires-clause-run c =
    half_run _ _ _ c.budgets-test.true c.if-end-kept-eq1.false (passed (goal.at.is_low-requires-clause-run c).After-min-last) c.budgets.invariant

pub budgets-preserved-then-is_low : goal.budgets-preserved-then-is_low
budgets-preserved-then-is_low c =
    let middle = middle_between _ _ c.budgets-test.true c.if-end-kept-eq1.false in
    half_low _ _ _ c.budgets-test.true _ middle.0 middle.1 (sym c.is_low.ensures ∙ c.if-is_low.true) c.budgets.invariant

pub budgets-preserved : goal.budgets-preserved
budgets-preserved c =
    let middle = middle_between _ _ c.budgets-test.true c.if-end-kept-eq1.false in
    half_kept _ _ _ c.budgets-test.true _ middle.0 middle.1 (sym c.is_low.ensures ∙ c.if-is_low.false) c.budgets.invariant

pub returns-then-end-kept-eq1 : goal.returns-then-end-kept-eq1
returns-then-end-kept-eq1 c =
    let run = passed (goal.at.returns-then-end-kept-eq1 c).After-min-last in
    found_low _ _ _ c.budgets-test.true c.if-end-kept-eq1.true run.inside c.budgets.invariant
