-- Refusals 2 to 5 as one number, for the checker and the writer.
-- Assumes nothing.
use Rattle.std.proofs.Math.Option.{Option, none, some}
use Rattle.std.specs.Prelude.{ℕ}
use Rattle.meaning.specs.Job.{Job, Knapsack, packing}
use Rattle.meaning.specs.Refusals.{job_refusal, rules_of}
use Rattle.meaning.specs.Certificates.{certified_knapsack}

-- by the knapsack: 2 where there is none, 3 to 5, or 0
unfoldable pub refusal_for : Option Knapsack → Job → ℕ
refusal_for none j = 2
refusal_for (some k) j = job_refusal (rules_of (packing k)) j 0

-- of a job, by the knapsack that its kind has certificates for
unfoldable pub certified_refusal : Job → ℕ
certified_refusal j = refusal_for (certified_knapsack j.kind_number) j
