-- `behind::solve` meets its contract: the last cell shows the mark and nothing is picked (`none_behind`), or picks are read off (`labels_found`).
use mathlib.Core.Path.{◌≡◌, refl, sym, ap, ◌∙◌}
use Prim.Native.Nat.{◌+◌, ◌-◌, ◌≤◌}
use native.Mathlib.Nat.{add-sub_cancel}
use native.Mathlib.Omega.{arith}
use mathlib.Core.List.{[], ◌∷◌, ◌++◌}
use lib.ListN.{length, drop, take}
use lib.Seq.{length-take-le}
use borrow.Author.Tests.{eqb-true, eqb-false}
use Rattle.meaning.specs.Lists.{at}
use Rattle.meaning.specs.Cells.{no_way}
use Rattle.meaning.specs.Job.{job_of, labels}
use Rattle.rows.proofs.Parts.{front_part, front_room, front_last}
use Rattle.behind.specs.Firsts.{FirstsGrown, TraceOff}
use Rattle.behind.proofs.BehindDoor.{Kept, keeps, none_behind, can_trace, labels_found}
use Rattle.behind.proofs.solve.Goals as goal

picks_long : (c : goal.After-trace_off-arg-1) → length (take c.len-n.result c.args.picks.now) ≡ length c.args.weights.now
unfolding job_of labels
picks_long c =
    let counted : c.len-n.result ≡ length c.args.weights.now = c.len-n.ensures in
    let ok : Kept (job_of 8 (c.args.budget ∷ []) c.args.weights.now [] []) c.args.cells.now c.args.picks.now = keeps (job_of 8 (c.args.budget ∷ []) c.args.weights.now [] []) c.args.cells.now c.args.picks.now c.requires in
    let picks_room : c.len-n.result ≤ length c.args.picks.now = omega (arith, counted, (ok).picks_room) in
    length-take-le c.len-n.result c.args.picks.now picks_room ∙ counted

pub slice_bounds-fill-end : goal.slice_bounds-fill-end
unfolding job_of
slice_bounds-fill-end c =
    let ok : Kept (job_of 8 (c.args.budget ∷ []) c.args.weights.now [] []) c.args.cells.now c.args.picks.now = keeps (job_of 8 (c.args.budget ∷ []) c.args.weights.now [] []) c.args.cells.now c.args.picks.now c.requires in
    let room : c.args.budget + 1 ≤ length c.args.cells.now = ok.cells_room in
    room

pub slice_bounds-fill-end-2 : goal.slice_bounds-fill-end-2
unfolding job_of
slice_bounds-fill-end-2 c =
    let ok : Kept (job_of 8 (c.args.budget ∷ []) c.args.weights.now [] []) c.args.cells.now c.args.picks.now = keeps (job_of 8 (c.args.budget ∷ []) c.args.weights.now [] []) c.args.cells.now c.args.picks.now c.requires in
    let room : c.args.budget + 1 ≤ length c.args.cells.now = ok.cells_room in
    let lent : length (take (c.args.budget + 1) c.args.cells.now) ≡ c.args.budget + 1 = length-take-le (c.args.budget + 1) c.args.cells.now room in
    sym lent

pub fill-requires : goal.fill-requires
unfolding job_of labels
fill-requires c =
    let ok : Kept (job_of 8 (c.args.budget ∷ []) c.args.weights.now [] []) c.args.cells.now c.args.picks.now = keeps (job_of 8 (c.args.budget ∷ []) c.args.weights.now [] []) c.args.cells.now c.args.picks.now c.requires in
    let room : c.args.budget + 1 ≤ length c.args.cells.now = ok.cells_room in
    let lent : length (take (c.args.budget + 1) c.args.cells.now) ≡ c.args.budget + 1 = length-take-le (c.args.budget + 1) c.args.cells.now room in
    (omega (arith, lent), ok.few)

pub bounds-cells-width : goal.bounds-cells-width
unfolding job_of
bounds-cells-width c =
    let ok : Kept (job_of 8 (c.args.budget ∷ []) c.args.weights.now [] []) c.args.cells.now c.args.picks.now = keeps (job_of 8 (c.args.budget ∷ []) c.args.weights.now [] []) c.args.cells.now c.args.picks.now c.requires in
    let room : c.args.budget + 1 ≤ length c.args.cells.now = ok.cells_room in
    let lent : length (take (c.args.budget + 1) c.args.cells.now) ≡ c.args.budget + 1 = length-take-le (c.args.budget + 1) c.args.cells.now room in
    let row_long : length c.fill.new.row ≡ c.args.budget + 1 = c.fill.auto.row ∙ lent in
    let row_room : c.args.budget + 1 ≤ length (c.fill.new.row ++ drop (c.args.budget + 1) c.args.cells.now) = front_room c.fill.new.row c.args.cells.now (c.args.budget + 1) row_long in
    omega (arith, row_room)

pub returns-then-is_marked : goal.returns-then-is_marked
unfolding job_of
returns-then-is_marked c =
    let ok : Kept (job_of 8 (c.args.budget ∷ []) c.args.weights.now [] []) c.args.cells.now c.args.picks.now = keeps (job_of 8 (c.args.budget ∷ []) c.args.weights.now [] []) c.args.cells.now c.args.picks.now c.requires in
    let room : c.args.budget + 1 ≤ length c.args.cells.now = ok.cells_room in
    let lent : length (take (c.args.budget + 1) c.args.cells.now) ≡ c.args.budget + 1 = length-take-le (c.args.budget + 1) c.args.cells.now room in
    let row_long : length c.fill.new.row ≡ c.args.budget + 1 = c.fill.auto.row ∙ lent in
    let last : at (c.fill.new.row ++ drop (c.args.budget + 1) c.args.cells.now) (c.args.budget + 1 - 1) ≡ at c.fill.new.row c.args.budget = front_last c.fill.new.row c.args.cells.now (c.args.budget + 1) row_long c.args.budget refl in
    let row_grown : FirstsGrown c.args.weights.now (c.args.budget + 1) c.fill.new.row = rw lent at c.fill.ensures in
    let marked = eqb-true (at (c.fill.new.row ++ drop (c.args.budget + 1) c.args.cells.now) (c.args.budget + 1 - 1)) no_way (sym c.is_marked.ensures ∙ c.if-is_marked.true) in
    none_behind (job_of 8 (c.args.budget ∷ []) c.args.weights.now [] []) c.args.cells.now c.args.picks.now c.fill.new.row c.requires row_long row_grown (sym last ∙ marked)

pub slice_bounds-trace_off-end : goal.slice_bounds-trace_off-end
unfolding job_of
slice_bounds-trace_off-end c =
    let ok : Kept (job_of 8 (c.args.budget ∷ []) c.args.weights.now [] []) c.args.cells.now c.args.picks.now = keeps (job_of 8 (c.args.budget ∷ []) c.args.weights.now [] []) c.args.cells.now c.args.picks.now c.requires in
    let room : c.args.budget + 1 ≤ length c.args.cells.now = ok.cells_room in
    let lent : length (take (c.args.budget + 1) c.args.cells.now) ≡ c.args.budget + 1 = length-take-le (c.args.budget + 1) c.args.cells.now room in
    let row_long : length c.fill.new.row ≡ c.args.budget + 1 = c.fill.auto.row ∙ lent in
    let row_room : c.args.budget + 1 ≤ length (c.fill.new.row ++ drop (c.args.budget + 1) c.args.cells.now) = front_room c.fill.new.row c.args.cells.now (c.args.budget + 1) row_long in
    row_room

pub slice_bounds-trace_off-end-2 : goal.slice_bounds-trace_off-end-2
unfolding job_of
slice_bounds-trace_off-end-2 c =
    let ok : Kept (job_of 8 (c.args.budget ∷ []) c.args.weights.now [] []) c.args.cells.now c.args.picks.now = keeps (job_of 8 (c.args.budget ∷ []) c.args.weights.now [] []) c.args.cells.now c.args.picks.now c.requires in
    let room : c.args.budget + 1 ≤ length c.args.cells.now = ok.cells_room in
    let lent : length (take (c.args.budget + 1) c.args.cells.now) ≡ c.args.budget + 1 = length-take-le (c.args.budget + 1) c.args.cells.now room in
    let row_long : length c.fill.new.row ≡ c.args.budget + 1 = c.fill.auto.row ∙ lent in
    let row_front : take (c.args.budget + 1) (c.fill.new.row ++ drop (c.args.budget + 1) c.args.cells.now) ≡ c.fill.new.row = front_part c.fill.new.row c.args.cells.now (c.args.budget + 1) row_long in
    sym row_long ∙ ap length (sym row_front)

pub slice_bounds-trace_off-end-3 : goal.slice_bounds-trace_off-end-3
unfolding job_of labels
slice_bounds-trace_off-end-3 c =
    let counted : c.len-n.result ≡ length c.args.weights.now = c.len-n.ensures in
    let ok : Kept (job_of 8 (c.args.budget ∷ []) c.args.weights.now [] []) c.args.cells.now c.args.picks.now = keeps (job_of 8 (c.args.budget ∷ []) c.args.weights.now [] []) c.args.cells.now c.args.picks.now c.requires in
    let picks_room : c.len-n.result ≤ length c.args.picks.now = omega (arith, counted, ok.picks_room) in
    picks_room

pub slice_bounds-trace_off-end-4 : goal.slice_bounds-trace_off-end-4
slice_bounds-trace_off-end-4 c =
    let counted : c.len-n.result ≡ length c.args.weights.now = c.len-n.ensures in
    counted ∙ sym (picks_long c)

pub trace_off-requires : goal.trace_off-requires
unfolding job_of
trace_off-requires c =
    let ok : Kept (job_of 8 (c.args.budget ∷ []) c.args.weights.now [] []) c.args.cells.now c.args.picks.now = keeps (job_of 8 (c.args.budget ∷ []) c.args.weights.now [] []) c.args.cells.now c.args.picks.now c.requires in
    let room : c.args.budget + 1 ≤ length c.args.cells.now = ok.cells_room in
    let lent : length (take (c.args.budget + 1) c.args.cells.now) ≡ c.args.budget + 1 = length-take-le (c.args.budget + 1) c.args.cells.now room in
    let row_long : length c.fill.new.row ≡ c.args.budget + 1 = c.fill.auto.row ∙ lent in
    let row_front : take (c.args.budget + 1) (c.fill.new.row ++ drop (c.args.budget + 1) c.args.cells.now) ≡ c.fill.new.row = front_part c.fill.new.row c.args.cells.now (c.args.budget + 1) row_long in
    let row_grown : FirstsGrown c.args.weights.now (c.args.budget + 1) c.fill.new.row = rw lent at c.fill.ensures in
    let last : at (c.fill.new.row ++ drop (c.args.budget + 1) c.args.cells.now) (c.args.budget + 1 - 1) ≡ at c.fill.new.row c.args.budget = front_last c.fill.new.row c.args.cells.now (c.args.budget + 1) row_long c.args.budget refl in
    let unmarked : ¬ (at c.fill.new.row c.args.budget ≡ no_way) = λ marked. eqb-false (at (c.fill.new.row ++ drop (c.args.budget + 1) c.args.cells.now) (c.args.budget + 1 - 1)) no_way (sym c.is_marked.ensures ∙ c.if-is_marked.false) (last ∙ marked) in
    rw row_front
    record { traceable = can_trace (job_of 8 (c.args.budget ∷ []) c.args.weights.now [] []) c.args.cells.now c.args.picks.now c.fill.new.row c.requires row_long row_grown unmarked; weights_len = sym (picks_long c) }

pub returns : goal.returns
unfolding job_of labels
returns c =
    let counted : c.len-n.result ≡ length c.args.weights.now = c.len-n.ensures in
    let ok : Kept (job_of 8 (c.args.budget ∷ []) c.args.weights.now [] []) c.args.cells.now c.args.picks.now = keeps (job_of 8 (c.args.budget ∷ []) c.args.weights.now [] []) c.args.cells.now c.args.picks.now c.requires in
    let room : c.args.budget + 1 ≤ length c.args.cells.now = ok.cells_room in
    let lent : length (take (c.args.budget + 1) c.args.cells.now) ≡ c.args.budget + 1 = length-take-le (c.args.budget + 1) c.args.cells.now room in
    let row_long : length c.fill.new.row ≡ c.args.budget + 1 = c.fill.auto.row ∙ lent in
    let row_front : take (c.args.budget + 1) (c.fill.new.row ++ drop (c.args.budget + 1) c.args.cells.now) ≡ c.fill.new.row = front_part c.fill.new.row c.args.cells.now (c.args.budget + 1) row_long in
    let row_grown : FirstsGrown c.args.weights.now (c.args.budget + 1) c.fill.new.row = rw lent at c.fill.ensures in
    let last : at (c.fill.new.row ++ drop (c.args.budget + 1) c.args.cells.now) (c.args.budget + 1 - 1) ≡ at c.fill.new.row c.args.budget = front_last c.fill.new.row c.args.cells.now (c.args.budget + 1) row_long c.args.budget refl in
    let unmarked : ¬ (at c.fill.new.row c.args.budget ≡ no_way) = λ marked. eqb-false (at (c.fill.new.row ++ drop (c.args.budget + 1) c.args.cells.now) (c.args.budget + 1 - 1)) no_way (sym c.is_marked.ensures ∙ c.if-is_marked.false) (last ∙ marked) in
    let found = c.trace_off.new.picks in
    let trace : TraceOff (at c.fill.new.row) c.args.weights.now c.args.budget 0 found =
    rw (row_front, row_long, add-sub_cancel) at c.trace_off.ensures in
    labels_found (job_of 8 (c.args.budget ∷ []) c.args.weights.now [] []) c.args.cells.now c.args.picks.now c.fill.new.row c.requires row_long row_grown unmarked
    _ found counted trace
