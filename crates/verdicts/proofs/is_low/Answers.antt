-- `verdicts::is_low` meets its contract: label by label in a single row; in a table by the label of the row.
use mathlib.Core.Path.{sym, ap}
use Prim.Native.Nat.{◌+◌, ◌-◌, ◌/◌}
use native.Mathlib.Omega.{arith}
use Rattle.meaning.specs.Bytes.{numbers_in}
use Rattle.meaning.specs.Job.{Job, Knapsack, job_of, labels}
use Rattle.meaning.specs.Bounds.{most_budget}
use Rattle.meaning.specs.Certificates.{certificate_cells}
use Rattle.verdicts.specs.Asked.{certified, knapsack_in}
use Rattle.verdicts.proofs.Taken.{copied, taken_free, valid_read}
use Rattle.verdicts.proofs.LowRows.{TableOf, RowRead, tabled, table_of, row_read, row_0_low, row_budgets, row_low, free_low}
use Rattle.verdicts.proofs.is_low.Goals as goal
use Rattle.verdicts.proofs.is_low.Goals.{Else-job-eq3, Else-from-width}

-- a table is asked about, row by row
table : (c : Else-job-eq3) → TableOf (knapsack_in c.args.job.now.kind) (certified c.args.job.now)
table c = table_of (tabled c.args.job.now.kind c.if-job-eq3.false) (certified c.args.job.now)

-- the row, and its label
row : (c : Else-from-width) →
    let job = c.args.job.now in
    let read = table_of (tabled job.kind c.if-job-eq3.false) (certified job) in
    RowRead (certified job) read (numbers_in c.args.cells.now) c.args.from c.args.end (c.args.from / (job.budget + 1) - 1)
unfolding job_of
row c =
    let job = c.args.job.now in
    let read = table_of (tabled job.kind c.if-job-eq3.false) (certified job) in
    let run = c.requires.run in
    row_read (certified job) read _ _ _ c.requires.cells_read.long (read.in_row _ _ run.together) run.some run.inside (omega arith)

pub stretch_is_low-requires : goal.stretch_is_low-requires
unfolding certificate_cells job_of labels most_budget
stretch_is_low-requires c =
    let job : Job = certified c.args.job.now in
    let valid = valid_read c.requires.cells_read in
    let single = sym (ap (λ (k : Knapsack). certificate_cells k job) (taken_free _ c.if-job-eq3.true)) in
    let inside = c.requires.run.inside in
    record { values_len = valid.valued; end_bound = (omega (arith, inside, single, valid.small), omega (arith, inside, c.requires.cells_read.long)) }

pub returns-then-job-eq3 : goal.returns-then-job-eq3
unfolding job_of
returns-then-job-eq3 c = free_low (taken_free _ c.if-job-eq3.true) (certified c.args.job.now) _ _ _ _ c.stretch_is_low.ensures

pub returns-then-from-width : goal.returns-then-from-width
unfolding job_of
returns-then-from-width c =
    let read = table (goal.at.returns-then-from-width c).Else-job-eq3 in
    row_0_low _ read (numbers_in c.args.cells.now) _ _ (read.in_row _ _ c.requires.run.together) c.if-from-width.true

pub at-w-requires : goal.at-w-requires
unfolding job_of labels
at-w-requires c = (row (goal.at.at-w-requires c).Else-from-width).label

pub at-v-requires : goal.at-v-requires
unfolding job_of labels
at-v-requires c =
    let label = (row (goal.at.at-v-requires c).Else-from-width).label in
    let valid = valid_read c.requires.cells_read in
    omega (arith, label, valid.valued)

pub most_picks-most-requires : goal.most_picks-most-requires
unfolding job_of labels
most_picks-most-requires c is-limited =
    let label = (row (goal.at.most_picks-most-requires c).Else-from-width).label in
    omega (arith, label, copied (valid_read c.requires.cells_read) is-limited)

pub row_breaks-requires : goal.row_breaks-requires
unfolding job_of
row_breaks-requires c =
    let here = row (goal.at.row_breaks-requires c).Else-from-width in
    record {
      row_there = here.there;
      budgets = row_budgets _ _ _ (valid_read c.requires.cells_read) here c.requires.run.some _ _ c.at-w.ensures c.at-v.ensures;
    }

pub returns : goal.returns
unfolding job_of
returns c =
    row_low _ _ _ (row (goal.at.returns c).Else-from-width) _ _ _ c.at-w.ensures c.at-v.ensures c.most_picks-most.ensures _ c.row_breaks.ensures
