-- `give` makes the shares of the starts: the units go to the labels at the border or before it, and to the first ones next behind it.
use mathlib.Core.Path.{◌∙◌}
use Prim.Native.Nat.{◌+◌, ◌<◌}
use native.Mathlib.Omega.{arith}
use Rattle.meaning.specs.Lists.{at}
use Rattle.meaning.specs.Job.{labels}
use Rattle.meaning.specs.Shares.{share_of}
use Rattle.rows.proofs.Stores.{stored_up}
use Rattle.shares.proofs.Starts.{share_within}
use Rattle.shares.proofs.Borders.{unit_given, behind_more}
use Rattle.shares.proofs.Claims.give.Goals as goal

pub overflow_add-shares : goal.overflow_add-shares
overflow_add-shares c =
    let j = c.args.self.now in
    let l = c.loop-i in
    let inside : l.i < labels j = omega (arith, c.requires.started.long) in
    let begun = l.invariant.0.past l.i (omega arith) ∙ c.requires.started.each l.i inside in
    let given = unit_given j c.args.border.remainder c.args.border.left c.requires.run_out l.i l.seen (at l.shares l.i) c.remainder_at-rest.result
    c.gets.result inside l.invariant.1 begun c.remainder_at-rest.ensures.0 c.gets.ensures in
    omega (arith, given, c.from.ensures, share_within j c.requires.started.positive l.i inside)

pub loop-i-preserved : goal.loop-i-preserved
loop-i-preserved c =
    let j = c.args.self.now in
    let l = c.loop-i in
    let rest = c.remainder_at-rest in
    let inside : l.i < labels j = omega (arith, c.requires.started.long) in
    let begun = l.invariant.0.past l.i (omega arith) ∙ c.requires.started.each l.i inside in
    let given = unit_given j c.args.border.remainder c.args.border.left c.requires.run_out l.i l.seen (at l.shares l.i) rest.result c.gets.result
    inside l.invariant.1 begun rest.ensures.0 c.gets.ensures in (
      stored_up c.args.shares.now 0 0 l.i (share_of j) l.shares l.i (at l.shares l.i + c.from.result) (omega arith) l.invariant.0 (omega arith)
          (omega arith) (rw c.from.ensures given),
      rw c.from-seen.ensures (behind_more j c.args.border.remainder l.i l.seen rest.result rest.ensures.0 l.invariant.1),
    )
