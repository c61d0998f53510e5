-- What a lent slice holds after a call: picks, tables and bytes alike.
-- Assumes nothing.
use Rattle.std.specs.Prelude.{◌≡◌, ℕ, List, ◌++◌, length, drop}

-- what stood there, with `new` written over its first places
abbrev pub over : List ℕ → List ℕ → List ℕ
over new before = new ++ drop (length new) before

-- the slice holds `new` in its first places, and past them what it held
unfoldable pub Holds : List ℕ → List ℕ → List ℕ → Type 0
Holds new before after = after ≡ over new before
