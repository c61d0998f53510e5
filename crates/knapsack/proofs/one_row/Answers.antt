-- `knapsack::one_row` meets its contract: `fill_row` leaves the row, and `trace_along` the picks and what is left of the budget (`packs_free`).
use mathlib.Core.Path.{refl, sym, ap, ◌∙◌}
use Prim.Native.Nat.{◌+◌, ◌≤◌}
use native.Mathlib.Nat.{add-sub_cancel}
use native.Mathlib.Omega.{arith}
use lib.ListN.{length}
use lib.Seq.{length-take-le}
use Rattle.meaning.specs.Lists.{at}
use Rattle.meaning.specs.Job.{job_of, labels}
use Rattle.meaning.specs.Bounds.{most_budget}
use Rattle.rows.proofs.Parts.{front_part, front_room, front_last}
use Rattle.knapsack.specs.Traces.{TraceAlong}
use Rattle.knapsack.proofs.FreeRow.{climbed_capped, along_weight}
use Rattle.knapsack.proofs.KnapsackDoor.{free_ready, packs_free}
use Rattle.knapsack.proofs.one_row.Goals as goal

trace : (c : goal.After-slice_known-5-1)
    → TraceAlong (at c.fill_row.new.row) c.args.weights.now c.args.values.now c.args.budget c.trace_along-left.result c.trace_along-left.new.picks
trace c =
    let long = c.fill_row.auto.row ∙ length-take-le _ _ (free_ready c.requires).cells_room in
    rw (front_part c.fill_row.new.row c.args.cells.now (c.args.budget + 1) long, long, add-sub_cancel) at c.trace_along-left.ensures

-- what is left is no more than the budget
within : (c : goal.After-slice_known-5-1) → c.trace_along-left.result ≤ c.args.budget
within c = omega (arith, along_weight _ _ _ _ _ _ (trace c))

pub slice_bounds-fill_row-end : goal.slice_bounds-fill_row-end
slice_bounds-fill_row-end c = (free_ready c.requires).cells_room

pub slice_bounds-fill_row-end-2 : goal.slice_bounds-fill_row-end-2
slice_bounds-fill_row-end-2 c = sym (length-take-le _ _ (free_ready c.requires).cells_room)

pub fill_row-requires : goal.fill_row-requires
fill_row-requires c = rw (length-take-le _ _ (free_ready c.requires).cells_room) (free_ready c.requires).bounds

pub slice_bounds-trace_along-end : goal.slice_bounds-trace_along-end
slice_bounds-trace_along-end c =
    front_room c.fill_row.new.row c.args.cells.now (c.args.budget + 1) (c.fill_row.auto.row ∙ length-take-le _ _ (free_ready c.requires).cells_room)

pub slice_bounds-trace_along-end-2 : goal.slice_bounds-trace_along-end-2
slice_bounds-trace_along-end-2 c =
    let long = c.fill_row.auto.row ∙ length-take-le _ _ (free_ready c.requires).cells_room in
    sym long ∙ ap length (sym (front_part c.fill_row.new.row c.args.cells.now (c.args.budget + 1) long))

pub slice_bounds-trace_along-end-3 : goal.slice_bounds-trace_along-end-3
slice_bounds-trace_along-end-3 c = rw c.len-n.ensures (free_ready c.requires).picks_room

pub slice_bounds-trace_along-end-4 : goal.slice_bounds-trace_along-end-4
slice_bounds-trace_along-end-4 c = sym (length-take-le _ _ (rw c.len-n.ensures (free_ready c.requires).picks_room))

pub trace_along-left-requires : goal.trace_along-left-requires
trace_along-left-requires c =
    let room = free_ready c.requires in
    let lent = length-take-le _ _ room.cells_room in
    let long = c.fill_row.auto.row ∙ lent in
    let n = c.len-n.ensures in
    let capped = climbed_capped _ _ _ _ c.fill_row.new.row room.bounds (omega arith) (rw lent at c.fill_row.ensures) in
    rw (front_part c.fill_row.new.row c.args.cells.now (c.args.budget + 1) long, long)
    record { bounded = room.bounds; capped = (capped, sym (length-take-le _ _ (rw n room.picks_room) ∙ n)) }

pub bounds-cells-width : goal.bounds-cells-width
bounds-cells-width c =
    let long = c.fill_row.auto.row ∙ length-take-le _ _ (free_ready c.requires).cells_room in
    omega (arith, front_room c.fill_row.new.row c.args.cells.now (c.args.budget + 1) long)

pub overflow_cast-result : goal.overflow_cast-result
unfolding most_budget
overflow_cast-result c = omega (arith, within c, (free_ready c.requires).bounds.narrow)

pub overflow_sub-result-2 : goal.overflow_sub-result-2
overflow_sub-result-2 c = within c

pub returns : goal.returns
unfolding job_of labels
returns c =
    let a = c.args in
    let lent = length-take-le _ _ (free_ready c.requires).cells_room in
    let long = c.fill_row.auto.row ∙ lent in
    packs_free _ a.cells.now a.picks.now c.fill_row.new.row _ _ c.requires long (rw lent at c.fill_row.ensures) (trace c) _ _ c.len-n.ensures
    (front_last c.fill_row.new.row a.cells.now (a.budget + 1) long a.budget refl)
