-- `gets` is the test of its definition.
use mathlib.Core.Path.{ap, ◌∙◌}
use Prim.Native.Nat.{ℕ, ◌+◌}
use lib.Dec.{ltb}
use Rattle.meaning.proofs.Tally.{one_or_none}
use Rattle.shares.specs.Borders.{ahead_of, gets_of}
use Rattle.shares.proofs.gets.Goals as goal

pub returns : goal.returns
unfolding gets_of
returns c =
    let a = c.args in
    c.ahead.ensures ∙ ap (λ (x : ℕ). ahead_of (a.remainder + x) a.border) (c.from.ensures ∙ one_or_none (ltb a.seen a.left))
