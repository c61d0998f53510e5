-- `rows::add_parts` meets its contract: a row with up to m of the label holds up to m and a part of it, once the part is raised (`greatest_part`).
use mathlib.Core.Path.{◌≡◌}
use Prim.Native.Nat.{◌*◌, ◌%◌}
use native.Mathlib.Nat.{mod-eq_of_lt}
use native.Mathlib.Omega.{arith}
use lib.ListN.{length}
use Rattle.meaning.specs.Lists.{at}
use Rattle.meaning.specs.Bounds.{most_value, most_budget}
use Rattle.rows.specs.Rows.{GreatestRow, Repeated, Capped}
use Rattle.rows.proofs.Counts.{greatest_part, PartFits, part_fits, raised_capped}
use Rattle.rows.proofs.add_parts.Goals.{After-min-part}
use Rattle.rows.proofs.add_parts.Goals as goal

-- the part is light and cheap
fits : (c : After-min-part) → let a = c.args in PartFits a.w a.v c.min-part.result (length a.row.now)
fits c =
    let a = c.args in
    part_fits a.w a.v c.min-part.result a.most (length a.row.now) c.requires.le_w.0 c.requires.le_w.1.0
    (omega (arith, c.min-part.ensures)) c.requires.le_w.1.1.1

-- so that the remainder is its weight
whole : (c : After-min-part) → let w = c.args.w * c.min-part.result in w % 65_536 ≡ w
unfolding most_budget
whole c = mod-eq_of_lt (omega (arith, (fits c).light, c.requires.le_w))

pub overflow_mul-w : goal.overflow_mul-w
unfolding most_budget
overflow_mul-w c = omega (arith, (fits (goal.at.overflow_mul-w c).After-min-part).light, c.requires.le_w)

pub overflow_mul-v : goal.overflow_mul-v
unfolding most_budget most_value
overflow_mul-v c = omega (arith, fits (goal.at.overflow_mul-v c).After-min-part, c.requires.le_w)

pub add_one-requires : goal.add_one-requires
unfolding Capped most_budget most_value
add_one-requires c =
    let b = (goal.at.add_one-requires c).After-min-part in
    λ d h. omega (arith, c.loop-m.invariant.1 d (omega arith), (fits b).cheap, whole b, c.requires.le_w)

pub loop-m-preserved : goal.loop-m-preserved
unfolding GreatestRow
loop-m-preserved c =
    let b = (goal.at.loop-m-preserved c).After-min-part in
    let part = c.min-part in
    let l = c.loop-m in
    let a = c.args in
    let width = length a.row.now in
    let after = at c.add_one.new.row in
    let raised = rw (whole b, l.auto.row) at c.add_one.ensures in (
      omega (arith, part.ensures),
      raised_capped (at l.row) after (a.w * part.result) (a.v * part.result) width (fits b).cheap l.invariant.1 raised,
      λ f greatest. greatest_part f (at l.row) after a.w a.v l.m part.result width (omega (arith, part.ensures)) (l.invariant.2 f greatest) raised,
    )

pub returns : goal.returns
unfolding Repeated
returns c =
    λ f greatest.
    let all : c.loop-m.m ≡ c.args.most = omega arith in
    rw (← all) (c.loop-m.invariant.2 f greatest)
