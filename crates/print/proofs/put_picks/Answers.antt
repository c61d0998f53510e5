-- `print::put_picks` meets its contract. The loop's invariant: after the word the slice holds the picks passed, a blank before each, and
-- elsewhere what it held when the loop began.
use Prim.Native.Nat.{ℕ}
use mathlib.Core.List.{List}
use native.Mathlib.Omega.{arith}
use Rattle.print.specs.Lines.{ascii, after_blanks}
use Rattle.print.proofs.Lengths.{picks_long, blanks_room, blanks_all}
use Rattle.print.proofs.Joined.{nothing_put, next_pick, picks_put}
use Rattle.print.proofs.put_picks.Goals as goal

pub put_bytes-end-requires : goal.put_bytes-end-requires
put_bytes-end-requires c = omega (arith, picks_long c.args.picks.now)

pub loop-pick-init : goal.loop-pick-init
unfolding after_blanks
loop-pick-init c = nothing_put _ _

pub put_number-end-requires : goal.put_number-end-requires
put_number-end-requires c =
    let picks : List ℕ = c.args.picks.now in
    omega (arith, picks_long picks, blanks_room picks c.loop-pick.pick-index (omega arith))

pub loop-pick-preserved : goal.loop-pick-preserved
loop-pick-preserved c =
    let ps : List ℕ = c.args.picks.now in
    next_pick ps c.loop-pick.pick-index (omega arith) (omega (arith, picks_long ps)) c.loop-pick.invariant c.put_number-end.ensures

pub put_bytes-requires : goal.put_bytes-requires
put_bytes-requires c =
    let picks : List ℕ = c.args.picks.now in
    omega (arith, picks_long picks, blanks_all picks c.loop-pick.pick-index (omega arith))

pub returns : goal.returns
unfolding ascii
returns c =
    let picks : List ℕ = c.args.picks.now in
    picks_put picks c.loop-pick.pick-index (omega arith) c.requires c.put_bytes-end.auto.out
    c.put_bytes-end.ensures c.loop-pick.invariant c.put_bytes.ensures
