-- `planner::pack` meets its contract: kind 1 goes its way, and kinds 2 and 3 have one.
use Rattle.meaning.specs.Job.{job_of}
use Rattle.meaning.specs.SolvedIn.{SolvedInCellsBy}
use Rattle.meaning.proofs.Ways.{from_full}
use Rattle.planner.proofs.pack.Goals as goal

pub returns : goal.returns
unfolding SolvedInCellsBy job_of
returns c =
    from_full c.args.way _ _ _ _ (c.goes_light.ensures.1 c.if-goes_light.false) (c.pack_full.ensures c.args.words.now)
