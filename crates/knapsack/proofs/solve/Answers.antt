-- `knapsack::solve` meets its contract: a job of kind 3 that is let in has no copies (`job_free`), and any other is below kind 3 (`any_below`).
use Rattle.meaning.specs.Job.{job_of}
use Rattle.knapsack.proofs.KnapsackDoor.{any_below, job_free}
use Rattle.knapsack.proofs.solve.Goals as goal

pub one_row-requires : goal.one_row-requires
one_row-requires c = (job_free _ _ _ _ _ _ _ c.if-job-eq3.true c.requires).1

pub returns-then-job-eq3 : goal.returns-then-job-eq3
returns-then-job-eq3 c = rw (job_free _ _ _ _ _ _ _ c.if-job-eq3.true c.requires).0 c.one_row.ensures

pub full_table-requires-clause-kind_bound : goal.full_table-requires-clause-kind_bound
unfolding job_of
full_table-requires-clause-kind_bound c = any_below _ _ _ c.if-job-eq3.false c.requires
