-- `plan::reply_to_job` meets its contract: what the planner tells of the bytes, as its lines. The picks that are printed stand within those lent.
use mathlib.Core.Path.{refl, sym}
use Prim.Native.Nat.{◌≤◌}
use native.Mathlib.Omega.{arith}
use lib.ListN.{length, take}
use lib.Seq.{length-take-le}
use Rattle.meaning.specs.Lent.{lent_of}
use Rattle.meaning.specs.Says.{said}
use Rattle.print.proofs.Lengths.{lines_room}
use Rattle.plan.proofs.Room.{picks_room}
use Rattle.plan.proofs.Replies.{replied, told_on_ours}
use Rattle.plan.proofs.reply_to_job.Goals as goal

pub slice_bounds-picks-end : goal.slice_bounds-picks-end
unfolding lent_of
slice_bounds-picks-end c =
    let told = c.solve_told-told in
    omega (arith, picks_room told.ensures, c.picks_written-written.ensures, told.auto.picks)

pub slice_bounds-text-end : goal.slice_bounds-text-end
unfolding lent_of
slice_bounds-text-end c =
    let told = c.solve_told-told in
    let written = c.picks_written-written in
    let room : written.result ≤ length told.new.picks = omega (arith, picks_room told.ensures, written.ensures, told.auto.picks) in
    sym (length-take-le written.result _ room)

pub text-requires : goal.text-requires
unfolding lent_of
text-requires c =
    let told = c.solve_told-told in
    let written = c.picks_written-written in
    let room : written.result ≤ length told.new.picks = omega (arith, picks_room told.ensures, written.ensures, told.auto.picks) in
    omega (
      arith,
      lines_room told.result.kind (said told.result.answer) (take written.result told.new.picks),
      length-take-le written.result told.new.picks room,
      room,
      told.auto.picks,
      c.requires,
    )

pub returns : goal.returns
unfolding lent_of
returns c =
    let on-ours = told_on_ours 8_192 1_024 1_024 refl refl refl c.solve_told-told.ensures in
    replied _ _ _ _ _ _ _ _ _ on-ours c.picks_written-written.ensures c.text.ensures
