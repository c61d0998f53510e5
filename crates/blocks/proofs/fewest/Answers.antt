-- `blocks::fewest` meets its contract: the last cell shows the mark and nothing is laid (`no_blocks`), or blocks are laid (`blocks_laid`).
use mathlib.Core.Path.{◌≡◌, refl, sym, ap, ◌∙◌}
use Prim.Native.Nat.{ℕ, ◌+◌, ◌-◌, ◌≤◌}
use native.Mathlib.Nat.{add-sub_cancel}
use native.Mathlib.Omega.{arith}
use mathlib.Core.List.{List, [], ◌∷◌, ◌++◌}
use lib.ListN.{length, drop, take}
use lib.Seq.{length-take-le}
use borrow.Author.Tests.{eqb-true, eqb-false}
use Rattle.meaning.specs.Lists.{at}
use Rattle.meaning.specs.Cells.{no_way}
use Rattle.meaning.specs.Job.{Job, job_of, fewest_blocks, labels}
use Rattle.meaning.specs.Lent.{lent_of, room_by, room_of}
use Rattle.meaning.specs.Refusals.{rules_of}
use Rattle.meaning.proofs.SolvedIn.{kept}
use Rattle.rows.proofs.Parts.{front_part, front_room, front_last}
use Rattle.blocks.specs.Sizes.{Bounded, FewestGrown, TraceDown}
use Rattle.blocks.proofs.BlocksDoor.{bounded, no_blocks, blocks_laid}
use Rattle.blocks.proofs.fewest.Goals as goal

-- and the first picks are one for each size
picks_long : (c : goal.After-trace_down-arg-1) →
    let sizes : List ℕ = c.args.weights.now in
    length (take c.len-n.result c.args.picks.now) ≡ length (sizes)
unfolding job_of labels lent_of room_by room_of rules_of
picks_long c =
    let sizes : List ℕ = c.args.weights.now in
    let counted : c.len-n.result ≡ length (sizes) = c.len-n.ensures in
    let job : Job = job_of 5 (c.args.budget ∷ []) sizes [] [] in
    let picks_room : length sizes ≤ length c.args.picks.now = (kept fewest_blocks job (lent_of c.args.cells.now [] c.args.picks.now) c.requires).picks_room in
    length-take-le c.len-n.result c.args.picks.now (omega (arith, counted, (picks_room))) ∙ counted

pub slice_bounds-fill_fewest-end : goal.slice_bounds-fill_fewest-end
unfolding job_of labels lent_of room_by room_of rules_of
slice_bounds-fill_fewest-end c =
    let sizes : List ℕ = c.args.weights.now in
    let job : Job = job_of 5 (c.args.budget ∷ []) sizes [] [] in
    let cells_room : c.args.budget + 1 ≤ length c.args.cells.now = (kept fewest_blocks job (lent_of c.args.cells.now [] c.args.picks.now) c.requires).cells_room in
    cells_room

pub slice_bounds-fill_fewest-end-2 : goal.slice_bounds-fill_fewest-end-2
unfolding job_of labels lent_of room_by room_of rules_of
slice_bounds-fill_fewest-end-2 c =
    let sizes : List ℕ = c.args.weights.now in
    let job : Job = job_of 5 (c.args.budget ∷ []) sizes [] [] in
    let cells_room : c.args.budget + 1 ≤ length c.args.cells.now = (kept fewest_blocks job (lent_of c.args.cells.now [] c.args.picks.now) c.requires).cells_room in
    let lent : length (take (c.args.budget + 1) c.args.cells.now) ≡ c.args.budget + 1 = length-take-le (c.args.budget + 1) c.args.cells.now cells_room in
    sym lent

pub fill_fewest-requires : goal.fill_fewest-requires
unfolding job_of labels lent_of room_by room_of rules_of
fill_fewest-requires c =
    let sizes : List ℕ = c.args.weights.now in
    let job : Job = job_of 5 (c.args.budget ∷ []) sizes [] [] in
    let bounds : Bounded (c.args.budget + 1) sizes = bounded fewest_blocks job (lent_of c.args.cells.now [] c.args.picks.now) refl (kept fewest_blocks job (lent_of c.args.cells.now [] c.args.picks.now) c.requires) in
    let cells_room : c.args.budget + 1 ≤ length c.args.cells.now = (kept fewest_blocks job (lent_of c.args.cells.now [] c.args.picks.now) c.requires).cells_room in
    let lent : length (take (c.args.budget + 1) c.args.cells.now) ≡ c.args.budget + 1 = length-take-le (c.args.budget + 1) c.args.cells.now cells_room in
    rw lent bounds

pub bounds-cells-width : goal.bounds-cells-width
unfolding job_of labels lent_of room_by room_of rules_of
bounds-cells-width c =
    let cells : List ℕ = c.fill_fewest.new.row ++ drop (c.args.budget + 1) c.args.cells.now in
    let sizes : List ℕ = c.args.weights.now in
    let job : Job = job_of 5 (c.args.budget ∷ []) sizes [] [] in
    let cells_room : c.args.budget + 1 ≤ length c.args.cells.now = (kept fewest_blocks job (lent_of c.args.cells.now [] c.args.picks.now) c.requires).cells_room in
    let lent : length (take (c.args.budget + 1) c.args.cells.now) ≡ c.args.budget + 1 = length-take-le (c.args.budget + 1) c.args.cells.now cells_room in
    let row_long : length c.fill_fewest.new.row ≡ c.args.budget + 1 = c.fill_fewest.auto.row ∙ lent in
    let room : c.args.budget + 1 ≤ length cells = front_room c.fill_fewest.new.row c.args.cells.now (c.args.budget + 1) row_long in
    omega (arith, room)

pub returns-then-is_marked : goal.returns-then-is_marked
unfolding job_of labels lent_of room_by room_of rules_of
returns-then-is_marked c =
    let sizes : List ℕ = c.args.weights.now in
    let job : Job = job_of 5 (c.args.budget ∷ []) sizes [] [] in
    let bounds : Bounded (c.args.budget + 1) sizes = bounded fewest_blocks job (lent_of c.args.cells.now [] c.args.picks.now) refl (kept fewest_blocks job (lent_of c.args.cells.now [] c.args.picks.now) c.requires) in
    let cells : List ℕ = c.fill_fewest.new.row ++ drop (c.args.budget + 1) c.args.cells.now in
    let cells_room : c.args.budget + 1 ≤ length c.args.cells.now = (kept fewest_blocks job (lent_of c.args.cells.now [] c.args.picks.now) c.requires).cells_room in
    let lent : length (take (c.args.budget + 1) c.args.cells.now) ≡ c.args.budget + 1 = length-take-le (c.args.budget + 1) c.args.cells.now cells_room in
    let row_long : length c.fill_fewest.new.row ≡ c.args.budget + 1 = c.fill_fewest.auto.row ∙ lent in
    let last : at cells (c.args.budget + 1 - 1) ≡ at c.fill_fewest.new.row c.args.budget = front_last c.fill_fewest.new.row c.args.cells.now (c.args.budget + 1) row_long c.args.budget refl in
    let row_grown : FewestGrown sizes (c.args.budget + 1) c.fill_fewest.new.row = rw lent at c.fill_fewest.ensures in
    no_blocks job c.args.cells.now c.args.picks.now c.fill_fewest.new.row c.requires bounds row_long row_grown
    _ last (eqb-true _ no_way (sym c.is_marked.ensures ∙ c.if-is_marked.true))

pub slice_bounds-trace_down-end : goal.slice_bounds-trace_down-end
unfolding job_of labels lent_of room_by room_of rules_of
slice_bounds-trace_down-end c =
    let cells : List ℕ = c.fill_fewest.new.row ++ drop (c.args.budget + 1) c.args.cells.now in
    let sizes : List ℕ = c.args.weights.now in
    let job : Job = job_of 5 (c.args.budget ∷ []) sizes [] [] in
    let cells_room : c.args.budget + 1 ≤ length c.args.cells.now = (kept fewest_blocks job (lent_of c.args.cells.now [] c.args.picks.now) c.requires).cells_room in
    let lent : length (take (c.args.budget + 1) c.args.cells.now) ≡ c.args.budget + 1 = length-take-le (c.args.budget + 1) c.args.cells.now cells_room in
    let row_long : length c.fill_fewest.new.row ≡ c.args.budget + 1 = c.fill_fewest.auto.row ∙ lent in
    let room : c.args.budget + 1 ≤ length cells = front_room c.fill_fewest.new.row c.args.cells.now (c.args.budget + 1) row_long in
    room

pub slice_bounds-trace_down-end-2 : goal.slice_bounds-trace_down-end-2
unfolding job_of labels lent_of room_by room_of rules_of
slice_bounds-trace_down-end-2 c =
    let cells : List ℕ = c.fill_fewest.new.row ++ drop (c.args.budget + 1) c.args.cells.now in
    let sizes : List ℕ = c.args.weights.now in
    let job : Job = job_of 5 (c.args.budget ∷ []) sizes [] [] in
    let cells_room : c.args.budget + 1 ≤ length c.args.cells.now = (kept fewest_blocks job (lent_of c.args.cells.now [] c.args.picks.now) c.requires).cells_room in
    let lent : length (take (c.args.budget + 1) c.args.cells.now) ≡ c.args.budget + 1 = length-take-le (c.args.budget + 1) c.args.cells.now cells_room in
    let row_long : length c.fill_fewest.new.row ≡ c.args.budget + 1 = c.fill_fewest.auto.row ∙ lent in
    let row_front : take (c.args.budget + 1) cells ≡ c.fill_fewest.new.row = front_part c.fill_fewest.new.row c.args.cells.now (c.args.budget + 1) row_long in
    sym row_long ∙ ap length (sym row_front)

pub slice_bounds-trace_down-end-3 : goal.slice_bounds-trace_down-end-3
unfolding job_of labels lent_of room_by room_of rules_of
slice_bounds-trace_down-end-3 c =
    let sizes : List ℕ = c.args.weights.now in
    let counted : c.len-n.result ≡ length sizes = c.len-n.ensures in
    let job : Job = job_of 5 (c.args.budget ∷ []) sizes [] [] in
    let picks_room : length sizes ≤ length c.args.picks.now = (kept fewest_blocks job (lent_of c.args.cells.now [] c.args.picks.now) c.requires).picks_room in
    omega (arith, counted, picks_room)

pub slice_bounds-trace_down-end-4 : goal.slice_bounds-trace_down-end-4
slice_bounds-trace_down-end-4 c =
    let sizes : List ℕ = c.args.weights.now in
    let counted : c.len-n.result ≡ length sizes = c.len-n.ensures in
    counted ∙ sym (picks_long c)

pub trace_down-requires : goal.trace_down-requires
unfolding job_of labels lent_of room_by room_of rules_of
trace_down-requires c =
    let sizes : List ℕ = c.args.weights.now in
    let job : Job = job_of 5 (c.args.budget ∷ []) sizes [] [] in
    let bounds : Bounded (c.args.budget + 1) sizes = bounded fewest_blocks job (lent_of c.args.cells.now [] c.args.picks.now) refl (kept fewest_blocks job (lent_of c.args.cells.now [] c.args.picks.now) c.requires) in
    let cells : List ℕ = c.fill_fewest.new.row ++ drop (c.args.budget + 1) c.args.cells.now in
    let cells_room : c.args.budget + 1 ≤ length c.args.cells.now = (kept fewest_blocks job (lent_of c.args.cells.now [] c.args.picks.now) c.requires).cells_room in
    let lent : length (take (c.args.budget + 1) c.args.cells.now) ≡ c.args.budget + 1 = length-take-le (c.args.budget + 1) c.args.cells.now cells_room in
    let row_long : length c.fill_fewest.new.row ≡ c.args.budget + 1 = c.fill_fewest.auto.row ∙ lent in
    let row_front : take (c.args.budget + 1) cells ≡ c.fill_fewest.new.row = front_part c.fill_fewest.new.row c.args.cells.now (c.args.budget + 1) row_long in
    rw (row_front, row_long) record { bounded = bounds; weights_len = sym (picks_long c) }

pub returns : goal.returns
unfolding job_of labels lent_of room_by room_of rules_of
returns c =
    let sizes : List ℕ = c.args.weights.now in
    let job : Job = job_of 5 (c.args.budget ∷ []) sizes [] [] in
    let bounds : Bounded (c.args.budget + 1) sizes = bounded fewest_blocks job (lent_of c.args.cells.now [] c.args.picks.now) refl (kept fewest_blocks job (lent_of c.args.cells.now [] c.args.picks.now) c.requires) in
    let counted : c.len-n.result ≡ length sizes = c.len-n.ensures in
    let cells : List ℕ = c.fill_fewest.new.row ++ drop (c.args.budget + 1) c.args.cells.now in
    let cells_room : c.args.budget + 1 ≤ length c.args.cells.now = (kept fewest_blocks job (lent_of c.args.cells.now [] c.args.picks.now) c.requires).cells_room in
    let lent : length (take (c.args.budget + 1) c.args.cells.now) ≡ c.args.budget + 1 = length-take-le (c.args.budget + 1) c.args.cells.now cells_room in
    let row_long : length c.fill_fewest.new.row ≡ c.args.budget + 1 = c.fill_fewest.auto.row ∙ lent in
    let last : at cells (c.args.budget + 1 - 1) ≡ at c.fill_fewest.new.row c.args.budget = front_last c.fill_fewest.new.row c.args.cells.now (c.args.budget + 1) row_long c.args.budget refl in
    let row_front : take (c.args.budget + 1) cells ≡ c.fill_fewest.new.row = front_part c.fill_fewest.new.row c.args.cells.now (c.args.budget + 1) row_long in
    let row_grown : FewestGrown sizes (c.args.budget + 1) c.fill_fewest.new.row = rw lent at c.fill_fewest.ensures in
    let found = c.trace_down.new.picks in
    let trace : TraceDown (at c.fill_fewest.new.row) sizes c.args.budget found =
    rw (row_front, row_long, add-sub_cancel) at c.trace_down.ensures in
    blocks_laid job c.args.cells.now c.args.picks.now c.fill_fewest.new.row c.requires bounds row_long row_grown
    _ _ found last (eqb-false _ no_way (sym c.is_marked.ensures ∙ c.if-is_marked.false)) counted trace
