-- `knapsack::full_table` meets its contract: `fill` leaves the table, and `trace_back` the picks and what is left of the budget (`packs_full`).
use mathlib.Core.Path.{◌≡◌, sym, ap, ◌∙◌}
use Prim.Native.Nat.{ℕ, ◌+◌, ◌*◌, ◌≤◌}
use native.Mathlib.Nat.{add-sub_cancel}
use native.Mathlib.Omega.{arith}
use mathlib.Core.List.{[], ◌∷◌}
use lib.ListN.{length}
use lib.Seq.{length-take-le}
use Rattle.meaning.specs.Job.{job_of, labels}
use Rattle.meaning.specs.Lent.{cell_count}
use Rattle.meaning.specs.Bounds.{most_budget}
use Rattle.rows.proofs.Parts.{front_part, front_room, front_last}
use Rattle.knapsack.specs.Tables.{row_of}
use Rattle.rows.specs.Traces.{TraceBack}
use Rattle.rows.proofs.AnyRows.{one_row_more, trace_within}
use Rattle.knapsack.proofs.FullRows.{some_back}
use Rattle.knapsack.proofs.KnapsackDoor.{full_ready, table_held, limit_few, limit_may, packs_full}
use Rattle.knapsack.proofs.full_table.Goals as goal

trace : (c : goal.After-slice_known-5-1)
    → TraceBack (row_of c.fill.new.cells (c.args.job.now.budget + 1)) c.args.job.now.weights c.args.job.now.values (length c.args.job.now.weights) c.args.job.now.budget 0
    c.trace_back-left.result c.trace_back-left.new.picks
trace c =
    let room = full_ready c.requires.let_in c.requires.kind_bound in
    let needed : ℕ = (c.len-n.result + 1) * (c.args.job.now.budget + 1) in
    let long : length c.fill.new.cells ≡ needed = c.fill.auto.cells ∙ length-take-le needed c.args.cells.now (rw c.len-n.ensures room.cells_room) in
    rw (front_part c.fill.new.cells c.args.cells.now needed long, add-sub_cancel) at c.trace_back-left.ensures

pub overflow_add-needed : goal.overflow_add-needed
overflow_add-needed c = omega (arith, (full_ready c.requires.let_in c.requires.kind_bound).picks_room, c.well_formed)

pub overflow_mul-needed : goal.overflow_mul-needed
overflow_mul-needed c =
    let room : (c.len-n.result + 1) * (c.args.job.now.budget + 1) ≤ length c.args.cells.now =
    table_held _ _ _ _ _ _ _ _ c.requires.let_in c.requires.kind_bound c.len-n.ensures in
    omega (arith, room, c.well_formed)

pub slice_bounds-fill-end : goal.slice_bounds-fill-end
slice_bounds-fill-end c = table_held _ _ _ _ _ _ _ _ c.requires.let_in c.requires.kind_bound c.len-n.ensures

pub slice_bounds-fill-end-2 : goal.slice_bounds-fill-end-2
slice_bounds-fill-end-2 c = sym (length-take-le _ _ (table_held _ _ _ _ _ _ _ _ c.requires.let_in c.requires.kind_bound c.len-n.ensures))

pub fill-requires : goal.fill-requires
fill-requires c =
    let room = full_ready c.requires.let_in c.requires.kind_bound in
    let n = c.len-n.ensures in
    let counted = ap (λ (n : ℕ). (n + 1) * (c.args.job.now.budget + 1)) n in
    record { bounded = room.bounds; copies_len = room.copied; width_value = sym counted ∙ sym (length-take-le _ _ (rw n room.cells_room)) }

pub slice_bounds-trace_back-end : goal.slice_bounds-trace_back-end
slice_bounds-trace_back-end c =
    let room = full_ready c.requires.let_in c.requires.kind_bound in
    front_room c.fill.new.cells c.args.cells.now _ (c.fill.auto.cells ∙ length-take-le _ _ (rw c.len-n.ensures room.cells_room))

pub slice_bounds-trace_back-end-2 : goal.slice_bounds-trace_back-end-2
slice_bounds-trace_back-end-2 c =
    let room = full_ready c.requires.let_in c.requires.kind_bound in
    let needed : ℕ = (c.len-n.result + 1) * (c.args.job.now.budget + 1) in
    let long : length c.fill.new.cells ≡ needed = c.fill.auto.cells ∙ length-take-le _ _ (rw c.len-n.ensures room.cells_room) in
    sym long ∙ ap length (sym (front_part c.fill.new.cells c.args.cells.now needed long))

pub slice_bounds-trace_back-end-3 : goal.slice_bounds-trace_back-end-3
slice_bounds-trace_back-end-3 c = rw c.len-n.ensures (full_ready c.requires.let_in c.requires.kind_bound).picks_room

pub slice_bounds-trace_back-end-4 : goal.slice_bounds-trace_back-end-4
slice_bounds-trace_back-end-4 c = sym (length-take-le _ _ (rw c.len-n.ensures (full_ready c.requires.let_in c.requires.kind_bound).picks_room))

pub trace_back-left-requires : goal.trace_back-left-requires
unfolding job_of labels
trace_back-left-requires c =
    let room = full_ready c.requires.let_in c.requires.kind_bound in
    let n = c.len-n.ensures in
    let needed : ℕ = (c.len-n.result + 1) * (c.args.job.now.budget + 1) in
    let counted = ap (λ (n : ℕ). (n + 1) * (c.args.job.now.budget + 1)) n in
    let long : length c.fill.new.cells ≡ needed = c.fill.auto.cells ∙ length-take-le _ _ (rw n room.cells_room) in
    let job = job_of c.args.job.now.kind (c.args.job.now.budget ∷ []) c.args.job.now.weights c.args.job.now.values c.args.job.now.copies in
    rw (front_part c.fill.new.cells c.args.cells.now needed long) record {
      bounded = room.bounds;
      width_value = (sym counted ∙ sym long, sym (length-take-le _ _ (rw n room.picks_room) ∙ n));
      by_index = some_back c.requires.let_in.knapsack job _ _ c.fill.new.cells
          (λ i x h. limit_few room.is job i x) (λ i x h. limit_may room.is job i x) (rw room.numbered at c.fill.ensures);
    }

pub offset_bounds-cells-needed : goal.offset_bounds-cells-needed
offset_bounds-cells-needed c =
    let room : (c.len-n.result + 1) * (c.args.job.now.budget + 1) ≤ length c.args.cells.now =
    table_held _ _ _ _ _ _ _ _ c.requires.let_in c.requires.kind_bound c.len-n.ensures in
    omega (arith, room, c.well_formed)

pub bounds-cells-needed : goal.bounds-cells-needed
bounds-cells-needed c =
    let room = full_ready c.requires.let_in c.requires.kind_bound in
    let needed : ℕ = (c.len-n.result + 1) * (c.args.job.now.budget + 1) in
    let long : length c.fill.new.cells ≡ needed = c.fill.auto.cells ∙ length-take-le _ _ (rw c.len-n.ensures room.cells_room) in
    omega (arith, front_room c.fill.new.cells c.args.cells.now needed long, one_row_more c.len-n.result (c.args.job.now.budget + 1))

pub overflow_cast-result : goal.overflow_cast-result
unfolding most_budget
overflow_cast-result c = omega (arith, (trace_within (trace c)).1, (full_ready c.requires.let_in c.requires.kind_bound).bounds.narrow)

pub overflow_sub-result-2 : goal.overflow_sub-result-2
overflow_sub-result-2 c = (trace_within (trace c)).1

pub returns : goal.returns
unfolding cell_count job_of labels
returns c =
    let a = c.args in
    let room = full_ready c.requires.let_in c.requires.kind_bound in
    let n = c.len-n.ensures in
    let needed : ℕ = (c.len-n.result + 1) * (a.job.now.budget + 1) in
    let counted : needed ≡ (length a.job.now.weights + 1) * (a.job.now.budget + 1) = ap (λ (n : ℕ). (n + 1) * (a.job.now.budget + 1)) n in
    let long : length c.fill.new.cells ≡ needed = c.fill.auto.cells ∙ length-take-le _ _ (rw n room.cells_room) in
    let place = length a.job.now.weights * (a.job.now.budget + 1) + a.job.now.budget in
    let inside = one_row_more (length a.job.now.weights) (a.job.now.budget + 1) in
    let last = front_last c.fill.new.cells a.cells.now needed long place (omega (arith, counted, inside)) in
    packs_full c.requires.let_in.knapsack _ a.cells.now a.picks.now c.fill.new.cells _ _ room.is c.requires.let_in.unrefused
    (long ∙ counted) (rw room.numbered at c.fill.ensures) (trace c) needed _ _ counted n last
