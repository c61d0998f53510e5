-- The room that a job needs, as the code holds it.
-- Assumes nothing.
use Rattle.std.specs.Prelude.{◌≡◌, ℕ, Bool, ◌&&◌, leb}
use Rattle.meaning.specs.declared.Way.{Way}
use Rattle.meaning.specs.declared.Way.TheVariants.{Light}
use Rattle.meaning.specs.Job.{Job, Kind, labels}
use Rattle.meaning.specs.Lent as meaning
use Rattle.rules.specs.declared.Room.{Room}

-- the room that the code's is
unfoldable pub room_from : Room → meaning.Room
room_from r = meaning.room_of r.cells r.words r.picks

-- it is what a job of this kind with n labels and this budget needs, by the way that kind 1 goes
unfoldable pub NeededFor : Way → Kind → ℕ → ℕ → Room → Type 0
NeededFor way k n budget r = (j : Job) → labels j ≡ n → j.budget ≡ budget → room_from r ≡ meaning.room_by way k j

-- by the light way
abbrev pub NeededBy : Kind → ℕ → ℕ → Room → Type 0
NeededBy k n budget r = NeededFor Light k n budget r

-- slices of these lengths have it
unfoldable pub has_room : Room → ℕ → ℕ → ℕ → Bool
has_room r cells words picks = leb r.cells cells && leb r.words words && leb r.picks picks
