-- What a slice holds after all lines were put into it.
-- Assumes nothing.
use Rattle.std.specs.Prelude.{ℕ, ◌≡◌, List, length}
use Rattle.meaning.specs.Slices.{Holds}

-- the slice holds the lines in its first places and past them what it held, and `size` is how long they are
pub record PutFirst (lines before after : List ℕ) (size : ℕ) : Type 0 where
  pub holds : Holds lines before after
  pub ends : size ≡ length lines
