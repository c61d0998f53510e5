-- `rules::room_fits` meets its contract, slice by slice.
use Rattle.rules.specs.Places.{has_room}
use Rattle.rules.proofs.Places.{first_fails, second_fails, last_asked}
use Rattle.rules.proofs.room_fits.Goals as goal

pub returns-then-cells-room : goal.returns-then-cells-room
unfolding has_room
returns-then-cells-room c = first_fails _ _ _ _ c.if-cells-room.true

pub returns-then-words-room : goal.returns-then-words-room
unfolding has_room
returns-then-words-room c = second_fails _ _ _ _ _ c.if-cells-room.false c.if-words-room.true

pub returns : goal.returns
unfolding has_room
returns c = last_asked _ _ _ _ _ c.if-cells-room.false c.if-words-room.false
