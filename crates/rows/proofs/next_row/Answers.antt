-- `rows::next_row` meets its contract: copied and raised, the row holds up to one of the label, and the parts add the others (`next_made`).
use mathlib.Core.Path.{◌∙◌}
use Prim.Native.Nat.{◌+◌, ◌≤◌}
use native.Mathlib.Omega.{arith}
use lib.ListN.{length}
use Rattle.meaning.specs.Bounds.{most_value, most_budget}
use Rattle.rows.specs.Rows.{Capped}
use Rattle.rows.proofs.Parts.{part_long}
use Rattle.rows.proofs.NextRow.{most_light, start_within, part_capped, next_made}
use Rattle.rows.proofs.next_row.Goals.{After-raised_from-start}
use Rattle.rows.proofs.next_row.Goals as goal

-- the row is raised from a budget within it on
short : (c : After-raised_from-start) → c.raised_from-start.result ≤ c.args.width
short c =
    let a = c.args in
    let most = c.most_held-most in
    let start = c.raised_from-start in
    start_within a.w most.result a.width start.result start.ensures.0 start.ensures.1
    (most_light a.limit a.w a.width most.result c.requires.width_nonzero.0 most.ensures)

pub copy-requires : goal.copy-requires
copy-requires c = let b = short (goal.at.copy-requires c).After-raised_from-start in (omega arith, omega (arith, c.requires.width_nonzero))

pub raise-requires-clause-w_le_width : goal.raise-requires-clause-w_le_width
raise-requires-clause-w_le_width c =
    let b = short (goal.at.raise-requires-clause-w_le_width c).After-raised_from-start in
    (omega arith, omega (arith, c.requires.width_nonzero))

pub raise-requires-clause-by_index : goal.raise-requires-clause-by_index
unfolding Capped most_budget most_value
raise-requires-clause-by_index c =
    λ d h.
    omega (arith, c.copy.ensures.before (c.args.from + d) (omega arith), c.requires.capped d (omega arith), c.requires.width_nonzero, c.requires.le_w)

pub add_parts-requires-clause-capped : goal.add_parts-requires-clause-capped
add_parts-requires-clause-capped c =
    let a = c.args in
    let start = c.raised_from-start in
    let u = c.raise.new.cells in
    let fits : a.from + a.width + a.width ≤ length u = omega (arith, c.requires.width_nonzero) in
    rw (part_long u (a.from + a.width) a.width fits)
    (part_capped a.cells.now c.copy.new.cells u a.from a.width a.w a.v c.most_held-most.result
    start.result start.ensures.0 start.ensures.1 c.copy.ensures c.raise.ensures c.requires.le_w.0 c.requires.le_w.1 fits c.requires.capped)

pub returns : goal.returns
returns c =
    let a = c.args in
    let most = c.most_held-most in
    let start = c.raised_from-start in
    let u = c.raise.new.cells in
    let fits : a.from + a.width + a.width ≤ length u = omega (arith, c.requires.width_nonzero) in
    let long = part_long u (a.from + a.width) a.width fits in
    next_made a.cells.now c.copy.new.cells u a.from a.width a.w a.v most.result
    start.result start.ensures.0 start.ensures.1 c.copy.ensures c.raise.ensures
    c.add_parts.new.row a.limit c.requires.le_w.0 fits (c.add_parts.auto.row ∙ long)
    (short (goal.at.returns c).After-raised_from-start) most.ensures (rw long at c.add_parts.ensures)
