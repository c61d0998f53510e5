-- `behind::first_by` meets its contract: its test is the definition's.
use mathlib.Core.Path.{◌≡◌}
use Prim.Native.Nat.{ℕ}
use mathlib.Core.Bool.{Bool, true, false, not, ◌&&◌}
use lib.Dec.{eqb}
use Rattle.meaning.specs.Lists.{if}
use Rattle.meaning.specs.Cells.{no_way}
use Rattle.behind.specs.Firsts.{first_by}
use Rattle.behind.proofs.first_by.Goals as goal

-- the two cells, and whether each is marked
module _ (i without rest : ℕ) {a b : Bool} (first : a ≡ eqb without no_way) (second : b ≡ eqb rest no_way) where
  newly : (a && not b) ≡ true → i ≡ first_by i without rest
  unfolding first_by if
  newly test = rw (← first, ← second, test)

  as_before : (a && not b) ≡ false → without ≡ first_by i without rest
  unfolding first_by if
  as_before test = rw (← first, ← second, test)

pub returns-then-is_marked : goal.returns-then-is_marked
returns-then-is_marked c =
    let a = c.args in
    newly a.i a.without a.rest c.is_marked.ensures c.is_marked-2.ensures c.if-is_marked.true

pub returns-else-is_marked : goal.returns-else-is_marked
returns-else-is_marked c =
    let a = c.args in
    as_before a.i a.without a.rest c.is_marked.ensures c.is_marked-2.ensures c.if-is_marked.false
