-- `requests::members` meets its contract: n where the list is used, and none where it isn't.
use Rattle.meaning.specs.Lists.{if}
use Rattle.requests.proofs.members.Goals as goal

pub returns-then-used : goal.returns-then-used
unfolding if
returns-then-used c = rw c.if-used.true

pub returns-else-used : goal.returns-else-used
unfolding if
returns-else-used c = rw c.if-used.false
