-- `rules::sums_room` meets its contract: a bit for each total, whatever n is (`bits_needed`).
use Rattle.rules.proofs.Places.{bits_needed}
use Rattle.rules.proofs.sums_room.Goals as goal

pub returns : goal.returns
returns c n = bits_needed n c.args.budget
