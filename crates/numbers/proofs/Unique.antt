-- No second choice is left: what is written at a place settles the whole slice, and the place after it.
-- Assumes nothing.
use Prim.Native.Nat.{ℕ}
use mathlib.Core.Path.{◌≡◌, sym, ◌∙◌}
use mathlib.Core.List.{List}
use Rattle.numbers.specs.Placed.{HoldsAt, WrittenAt}

-- `write_number`, and whatever else is written at a place
pub holds_at_unique : (place : ℕ) (new before after after' : List ℕ) → HoldsAt place new before after → HoldsAt place new before after'
    → after ≡ after'
unfolding HoldsAt
holds_at_unique place new before after after' h h' = h ∙ sym h'

-- `write_section`, and whatever else gives the place after it
pub written_unique : {place : ℕ} {new before after after' : List ℕ} {next next' : ℕ}
    → WrittenAt place new before after next → WrittenAt place new before after' next' → (after ≡ after') × (next ≡ next')
written_unique d e = (holds_at_unique _ _ _ _ _ d.written e.written, d.ends ∙ sym e.ends)
