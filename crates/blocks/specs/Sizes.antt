-- Cells alone: a row by amounts as it is made size by size, and how the blocks are read off it.
-- Assumes nothing.
use Rattle.std.specs.Prelude.{ℕ, suc, ◌+◌, ◌-◌, ◌≤◌, ◌<◌, min, Bool, ◌&&◌, List, leb, ltb, length}
use Rattle.meaning.specs.Lists.{at}
use Rattle.meaning.specs.Cells.{no_way}
use Rattle.meaning.specs.Bounds.{most_budget}
use Rattle.meaning.specs.Orders.{last_most}
use Rattle.meaning.specs.Blocks.{too_many}
use Rattle.rows.specs.Rows.{Swept, FirstAlone}
use Rattle.rows.specs.Rounds.{LabelByLabel}
use Rattle.rows.specs.Traces.{Trace}

-- what the sizes and the width of a row keep in kinds 5 and 6
pub record Bounded (width : ℕ) (sizes : List ℕ) : Type 0 where
  pub wide : 0 < width
  pub narrow : width ≤ most_budget + 1
  pub whole : (i : ℕ) → i < length sizes → 1 ≤ at sizes i

-- kind 5: an amount's blocks with a size more. It may be made without the size, or with one block of it on top of the blocks for the rest
abbrev pub fewer_of : ℕ → ℕ → ℕ
fewer_of without rest = min without (suc rest)

-- kind 6: an amount's ways with a size more. Those without it, and those for the rest, as far as they can be counted
abbrev pub ways_of : ℕ → ℕ → ℕ
ways_of without rest = min (without + rest) too_many

-- the row after the first i sizes, each of which made every cell by a rule of what it held and of the new cell one size before it. With no
-- sizes amount 0 shows `one`, and every other amount `none`
abbrev pub Grown : (ℕ → ℕ → ℕ) → ℕ → ℕ → List ℕ → ℕ → ℕ → List ℕ → Type 0
Grown rule one none sizes width i row = LabelByLabel (FirstAlone one none width) (λ m s t. Swept rule s t (at sizes m) (at sizes m) width) i row

-- kind 5: the row of fewest blocks after all sizes
abbrev pub FewestGrown : List ℕ → ℕ → List ℕ → Type 0
FewestGrown sizes width row = Grown fewer_of 0 no_way sizes width (length sizes) row

-- kind 6: the row of ways after all sizes
abbrev pub WaysGrown : List ℕ → ℕ → List ℕ → Type 0
WaysGrown sizes width row = Grown ways_of 1 0 sizes width (length sizes) row

-- one block of the size leads on from amount a: it leaves an amount that takes fewer
unfoldable pub leaves_fewer : (ℕ → ℕ) → ℕ → ℕ → Bool
leaves_fewer row size a = leb size a && ltb (row (a - size)) (row a)

-- kind 5: one block of size m leads on from amount a
abbrev pub leads_down : (ℕ → ℕ) → List ℕ → ℕ → ℕ → Bool
leads_down row sizes m a = leaves_fewer row (at sizes m) a

-- kind 5: the trace down the sizes, from the last one at the whole amount, with all counts settled
pub record TraceDown (row : ℕ → ℕ) (sizes : List ℕ) (amount : ℕ) (picks : List ℕ) : Type 0 where
  pub left : ℕ
  pub trace : Trace last_most (leads_down row sizes) sizes (length sizes) amount (length sizes) left picks
