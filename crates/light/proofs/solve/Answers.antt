-- `light::solve` meets its contract: `pack` leaves the row, the bits and the picks, and what is left of the budget (`packs_light`).
use mathlib.Core.Path.{◌≡◌, sym, ap, ◌∙◌}
use Prim.Native.Nat.{ℕ, ◌+◌, ◌*◌, ◌/◌, ◌≤◌}
use native.Mathlib.Omega.{arith}
use lib.ListN.{get_or-append, length, drop}
use lib.Seq.{length-take-le}
use Rattle.meaning.specs.Job.{job_of, labels}
use Rattle.meaning.specs.Bounds.{most_budget}
use Rattle.rows.proofs.Parts.{front_room}
use Rattle.light.proofs.LightDoor.{light_ready, packs_light, within}
use Rattle.light.proofs.solve.Goals as goal

-- the row that was written is as long as the part that was lent
row_long : (c : goal.After-slice_known-7-1) → length c.pack-left.new.row ≡ c.args.budget + 1
row_long c = c.pack-left.auto.row ∙ length-take-le _ _ (light_ready c.requires).cells_room

-- and so are the words
bits_long : (c : goal.After-slice_known-7-1) → length c.pack-left.new.words ≡ length c.args.weights.now * (c.args.budget / 64 + 1)
bits_long c =
    let counted = ap (λ (n : ℕ). n * (c.args.budget / 64 + 1)) c.len-n.ensures in
    c.pack-left.auto.words ∙ length-take-le _ _ (rw c.len-n.ensures (light_ready c.requires).words_room) ∙ counted

left_within : (c : goal.After-slice_known-7-1) → c.pack-left.result ≤ c.args.budget
unfolding job_of labels
left_within c = within _ _ _ _ _ _ _ _ c.requires (row_long c) (bits_long c) c.pack-left.ensures

pub slice_bounds-pack-end : goal.slice_bounds-pack-end
slice_bounds-pack-end c = (light_ready c.requires).cells_room

pub slice_bounds-pack-end-2 : goal.slice_bounds-pack-end-2
slice_bounds-pack-end-2 c = sym (length-take-le _ _ (light_ready c.requires).cells_room)

pub overflow_mul-n : goal.overflow_mul-n
overflow_mul-n c = rw c.len-n.ensures (omega (arith, (light_ready c.requires).counted))

pub slice_bounds-pack-end-3 : goal.slice_bounds-pack-end-3
slice_bounds-pack-end-3 c = rw c.len-n.ensures (light_ready c.requires).words_room

pub slice_bounds-pack-end-4 : goal.slice_bounds-pack-end-4
slice_bounds-pack-end-4 c = sym (length-take-le _ _ (rw c.len-n.ensures (light_ready c.requires).words_room))

pub slice_bounds-pack-end-5 : goal.slice_bounds-pack-end-5
slice_bounds-pack-end-5 c = rw c.len-n.ensures (light_ready c.requires).picks_room

pub slice_bounds-pack-end-6 : goal.slice_bounds-pack-end-6
slice_bounds-pack-end-6 c = sym (length-take-le _ _ (rw c.len-n.ensures (light_ready c.requires).picks_room))

pub pack-left-requires : goal.pack-left-requires
pack-left-requires c =
    let room = light_ready c.requires in
    let n = c.len-n.ensures in
    let counted = ap (λ (n : ℕ). n * (c.args.budget / 64 + 1)) n in
    record {
      bounded = room.bounds;
      row_len = (
        length-take-le _ _ room.cells_room,
        (sym (length-take-le _ _ (rw n room.words_room) ∙ counted), sym (length-take-le _ _ (rw n room.picks_room) ∙ n)),
      );
    }

pub bounds-cells-most : goal.bounds-cells-most
bounds-cells-most c = omega (arith, front_room c.pack-left.new.row c.args.cells.now (c.args.budget + 1) (row_long c))

pub overflow_cast-result : goal.overflow_cast-result
unfolding most_budget
overflow_cast-result c = omega (arith, left_within c, (light_ready c.requires).bounds.narrow)

pub overflow_sub-result : goal.overflow_sub-result
overflow_sub-result c = left_within c

pub returns : goal.returns
unfolding job_of labels
returns c =
    let a = c.args in
    let counted = ap (λ (n : ℕ). n * (a.budget / 64 + 1)) c.len-n.ensures in
    packs_light _ a.cells.now a.words.now a.picks.now _ _ _ _ c.requires (row_long c) (bits_long c) c.pack-left.ensures _ _ _ counted c.len-n.ensures
    (get_or-append c.pack-left.new.row (drop (a.budget + 1) a.cells.now) 0 a.budget (omega (arith, row_long c)))
