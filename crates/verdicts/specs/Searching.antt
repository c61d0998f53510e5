-- What a search finds.
-- Assumes nothing.
use Rattle.std.proofs.Math.Option as Place
use Rattle.std.proofs.Math.Option.{none, some}
use Rattle.std.specs.Prelude.{ℕ, Option, Some, None}

-- the first place, or none
unfoldable pub place_of : Option ℕ → Place.Option ℕ
place_of (Some place) = some place
place_of None = none
