-- `solve` keeps the promise of kind 7: the part that is lent has a place for each label.
use mathlib.Core.Path.{sym, ◌∙◌}
use native.Mathlib.Omega.{arith}
use lib.Seq.{length-take-le}
use Rattle.meaning.specs.Job.{job_of, labels}
use Rattle.shares.specs.Borders.{claims_job}
use Rattle.shares.proofs.SharesDoor.{ready}
use Rattle.shares.proofs.solve.Goals as goal

pub slice_bounds-share-end-2 : goal.slice_bounds-share-end-2
unfolding job_of labels
slice_bounds-share-end-2 c =
    let a = c.args in
    let room = (ready (claims_job a.budget a.weights.now) a.picks.now c.requires).room in
    sym (length-take-le c.len-n.result a.picks.now (omega (arith, c.len-n.ensures, room)))

pub share-spare-requires-clause-shares_len : goal.share-spare-requires-clause-shares_len
unfolding job_of labels
share-spare-requires-clause-shares_len c =
    let a = c.args in
    let room = (ready (claims_job a.budget a.weights.now) a.picks.now c.requires).room in
    length-take-le c.len-n.result a.picks.now (omega (arith, c.len-n.ensures, room)) ∙ c.len-n.ensures
