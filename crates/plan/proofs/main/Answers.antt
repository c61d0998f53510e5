-- `plan::main` is safe and ends: the lines that are written stand within the slice that they were put into.
use mathlib.Core.Path.{sym}
use lib.Seq.{length-take-le}
use Rattle.plan.proofs.Replies.{replied_within}
use Rattle.plan.proofs.main.Goals as goal

pub slice_bounds-out-end : goal.slice_bounds-out-end
slice_bounds-out-end c = replied_within c.reply-size.ensures

pub slice_bounds-write_all-end : goal.slice_bounds-write_all-end
slice_bounds-write_all-end c =
    let r = c.reply-size in
    sym (length-take-le r.result r.new.out (replied_within r.ensures))
