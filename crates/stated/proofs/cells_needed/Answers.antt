-- `stated::cells_needed` meets its contract: it is one of the measures.
use mathlib.Core.List.{[], ◌∷◌}
use Rattle.meaning.specs.Job.{job_of, has_q}
use Rattle.meaning.specs.Lists.{if}
use Rattle.stated.proofs.StatedDoor.{Kept, asked_keeps}
use Rattle.stated.proofs.cells_needed.Goals as goal

pub measure-requires : goal.measure-requires
unfolding has_q if job_of
measure-requires c =
    let ok : Kept (job_of 9 (c.args.budget ∷ c.args.q ∷ []) c.args.weights.now
    c.args.values.now []) = asked_keeps (job_of 9 (c.args.budget ∷ c.args.q ∷ []) c.args.weights.now
    c.args.values.now []) c.requires in
    (ok.few_parts, ok.valued)
