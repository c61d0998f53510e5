-- `trials::lines::show` is safe and ends: the lines of at most 4,096 picks have room.
use Rattle.meaning.specs.Says.{said}
use Rattle.std.proofs.Common.{arith}
use Rattle.print.proofs.Lengths.{lines_room}
use Rattle.trials.proofs.lines.show.Goals as goal

pub text-size-requires : goal.text-size-requires
text-size-requires g c = omega (arith, lines_room c.args.kind (said c.args.answer) c.args.picks.now)

pub slice_bounds-put-end : goal.slice_bounds-put-end
slice_bounds-put-end g c =
    omega (arith, lines_room c.args.kind (said c.args.answer) c.args.picks.now, c.text-size.ensures.ends, c.text-size.auto.out)
