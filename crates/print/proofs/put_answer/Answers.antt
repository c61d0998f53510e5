-- `print::put_answer` meets its contract: in each arm the lines are those of the answer's case (`case_room`, `case_put`).
use mathlib.Core.Path.{ap}
use Rattle.meaning.specs.Says.{given}
use Rattle.print.specs.Lines.{ascii, lines_of}
use Rattle.print.proofs.Joined.{case_room, case_put}
use Rattle.print.proofs.put_answer.Goals as goal

pub put_knapsack-requires : goal.put_knapsack-requires
unfolding lines_of
put_knapsack-requires c = case_room c.args.kind c.args.picks.now (ap given c.in-Knapsack.is) c.requires

pub returns-in-Knapsack : goal.returns-in-Knapsack
unfolding lines_of
returns-in-Knapsack c =
    case_put c.args.kind c.args.picks.now (ap given c.in-Knapsack.is) c.put_knapsack.ensures

pub put_sums-requires : goal.put_sums-requires
unfolding lines_of
put_sums-requires c = case_room c.args.kind c.args.picks.now (ap given c.in-Sums.is) c.requires

pub returns-in-Sums : goal.returns-in-Sums
unfolding lines_of
returns-in-Sums c =
    case_put c.args.kind c.args.picks.now (ap given c.in-Sums.is) c.put_sums.ensures

pub put_number_and_picks-requires : goal.put_number_and_picks-requires
unfolding ascii lines_of
put_number_and_picks-requires c = case_room c.args.kind c.args.picks.now (ap given c.in-Blocks.is) c.requires

pub returns-in-Blocks : goal.returns-in-Blocks
unfolding ascii lines_of
returns-in-Blocks c =
    case_put c.args.kind c.args.picks.now (ap given c.in-Blocks.is) c.put_number_and_picks.ensures

pub put_ways-requires : goal.put_ways-requires
unfolding lines_of
put_ways-requires c = case_room c.args.kind c.args.picks.now (ap given c.in-Ways.is) c.requires

pub returns-in-Ways : goal.returns-in-Ways
unfolding lines_of
returns-in-Ways c =
    case_put c.args.kind c.args.picks.now (ap given c.in-Ways.is) c.put_ways.ensures

pub put_number_and_picks-requires-in-Shares : goal.put_number_and_picks-requires-in-Shares
unfolding ascii lines_of
put_number_and_picks-requires-in-Shares c = case_room c.args.kind c.args.picks.now (ap given c.in-Shares.is) c.requires

pub returns-in-Shares : goal.returns-in-Shares
unfolding ascii lines_of
returns-in-Shares c =
    case_put c.args.kind c.args.picks.now (ap given c.in-Shares.is) c.put_number_and_picks-in-Shares.ensures

pub put_number_and_picks-requires-in-Weight : goal.put_number_and_picks-requires-in-Weight
unfolding ascii lines_of
put_number_and_picks-requires-in-Weight c = case_room c.args.kind c.args.picks.now (ap given c.in-Weight.is) c.requires

pub returns-in-Weight : goal.returns-in-Weight
unfolding ascii lines_of
returns-in-Weight c =
    case_put c.args.kind c.args.picks.now (ap given c.in-Weight.is) c.put_number_and_picks-in-Weight.ensures
