-- `print::put_knapsack` meets its contract: the head, the weight and the picks, one after the other.
use native.Mathlib.Omega.{arith}
use Rattle.numbers.specs.Placed.{WrittenAt}
use Rattle.print.specs.Lines.{ascii, head_lines}
use Rattle.print.proofs.Lengths.{knapsack_long}
use Rattle.print.proofs.Joined.{knapsack_put}
use Rattle.print.proofs.put_knapsack.Goals as goal

pub put_head-next-requires : goal.put_head-next-requires
unfolding ascii
put_head-next-requires c = omega (arith, knapsack_long c.args.kind c.args.value c.args.weight c.args.picks.now)

pub put_line-last-requires : goal.put_line-last-requires
unfolding ascii
put_line-last-requires c = omega (arith, knapsack_long c.args.kind c.args.value c.args.weight c.args.picks.now)

pub put_picks-requires : goal.put_picks-requires
unfolding ascii
put_picks-requires c = omega (arith, knapsack_long c.args.kind c.args.value c.args.weight c.args.picks.now)

pub returns : goal.returns
unfolding ascii
returns c =
    let a = c.args in
    let valued : WrittenAt 0 (head_lines a.kind (ascii "value") a.value) a.out.now c.put_head-next.new.out c.put_head-next.result = c.put_head-next.ensures in
    knapsack_put c.args.kind c.args.value c.args.weight c.args.picks.now c.requires c.put_head-next.auto.out
    valued c.put_line-last.ensures c.put_picks.ensures
