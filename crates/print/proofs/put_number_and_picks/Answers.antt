-- `print::put_number_and_picks` meets its contract: the head and the picks, one after the other.
use Rattle.print.proofs.Joined.{number_and_picks_put}
use Rattle.print.proofs.put_number_and_picks.Goals as goal

pub returns : goal.returns
returns c =
    number_and_picks_put c.args.kind c.args.name.now c.args.x c.args.picks.now c.requires
    c.put_head-next.ensures c.put_picks.ensures
