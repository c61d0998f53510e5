-- `blocks::ways` meets its contract: the last cell alone decides, by the mark (`too_many_lem`) or the ways that it shows (`ways_counted`).
use mathlib.Core.Path.{◌≡◌, refl, sym, ◌∙◌}
use Prim.Native.Nat.{◌+◌, ◌-◌, ◌≤◌, ◌<◌}
use native.Mathlib.Omega.{arith}
use mathlib.Core.List.{[], ◌∷◌, ◌++◌}
use lib.ListN.{length, drop, take}
use lib.Seq.{length-take-le}
use Rattle.meaning.specs.Lists.{at}
use Rattle.meaning.specs.Job.{job_of, block_ways}
use Rattle.meaning.specs.Lent.{lent_of, room_by, room_of}
use Rattle.meaning.specs.Refusals.{rules_of}
use Rattle.meaning.specs.Blocks.{too_many}
use Rattle.meaning.proofs.SolvedIn.{kept}
use Rattle.rows.proofs.Parts.{front_room, front_last}
use Rattle.blocks.specs.Sizes.{Bounded, WaysGrown}
use Rattle.blocks.proofs.BlocksDoor.{bounded, too_many_lem, ways_counted}
use Rattle.blocks.proofs.ways.Goals as goal

pub slice_bounds-fill_ways-end : goal.slice_bounds-fill_ways-end
unfolding job_of lent_of room_by room_of
slice_bounds-fill_ways-end c =
    let words_room : c.args.budget + 1 ≤ length c.args.words.now = (kept block_ways (job_of 6 (c.args.budget ∷ []) c.args.weights.now [] []) (lent_of [] c.args.words.now []) c.requires).words_room in
    words_room

pub slice_bounds-fill_ways-end-2 : goal.slice_bounds-fill_ways-end-2
unfolding job_of lent_of room_by room_of
slice_bounds-fill_ways-end-2 c =
    let words_room : c.args.budget + 1 ≤ length c.args.words.now = (kept block_ways (job_of 6 (c.args.budget ∷ []) c.args.weights.now [] []) (lent_of [] c.args.words.now []) c.requires).words_room in
    let lent : length (take (c.args.budget + 1) c.args.words.now) ≡ c.args.budget + 1 = length-take-le (c.args.budget + 1) c.args.words.now words_room in
    sym lent

pub fill_ways-requires : goal.fill_ways-requires
unfolding job_of lent_of room_by room_of rules_of
fill_ways-requires c =
    let bounds : Bounded (c.args.budget + 1) c.args.weights.now = bounded block_ways (job_of 6 (c.args.budget ∷ []) c.args.weights.now [] []) (lent_of [] c.args.words.now []) refl (kept block_ways (job_of 6 (c.args.budget ∷ []) c.args.weights.now [] []) (lent_of [] c.args.words.now []) c.requires) in
    let words_room : c.args.budget + 1 ≤ length c.args.words.now = (kept block_ways (job_of 6 (c.args.budget ∷ []) c.args.weights.now [] []) (lent_of [] c.args.words.now []) c.requires).words_room in
    let lent : length (take (c.args.budget + 1) c.args.words.now) ≡ c.args.budget + 1 = length-take-le (c.args.budget + 1) c.args.words.now words_room in
    rw lent bounds

pub bounds-words-width : goal.bounds-words-width
unfolding job_of lent_of room_by room_of
bounds-words-width c =
    let words_room : c.args.budget + 1 ≤ length c.args.words.now = (kept block_ways (job_of 6 (c.args.budget ∷ []) c.args.weights.now [] []) (lent_of [] c.args.words.now []) c.requires).words_room in
    let lent : length (take (c.args.budget + 1) c.args.words.now) ≡ c.args.budget + 1 = length-take-le (c.args.budget + 1) c.args.words.now words_room in
    let row_long : length c.fill_ways.new.words ≡ c.args.budget + 1 = c.fill_ways.auto.words ∙ lent in
    let inside : c.args.budget + 1 - 1 < length (c.fill_ways.new.words ++ drop (c.args.budget + 1) c.args.words.now) = omega (arith, front_room c.fill_ways.new.words c.args.words.now (c.args.budget + 1) row_long) in
    omega (arith, inside)

pub returns-then-words-width : goal.returns-then-words-width
unfolding job_of lent_of room_by room_of rules_of too_many
returns-then-words-width c =
    let bounds : Bounded (c.args.budget + 1) c.args.weights.now = bounded block_ways (job_of 6 (c.args.budget ∷ []) c.args.weights.now [] []) (lent_of [] c.args.words.now []) refl (kept block_ways (job_of 6 (c.args.budget ∷ []) c.args.weights.now [] []) (lent_of [] c.args.words.now []) c.requires) in
    let words_room : c.args.budget + 1 ≤ length c.args.words.now = (kept block_ways (job_of 6 (c.args.budget ∷ []) c.args.weights.now [] []) (lent_of [] c.args.words.now []) c.requires).words_room in
    let lent : length (take (c.args.budget + 1) c.args.words.now) ≡ c.args.budget + 1 = length-take-le (c.args.budget + 1) c.args.words.now words_room in
    let row_long : length c.fill_ways.new.words ≡ c.args.budget + 1 = c.fill_ways.auto.words ∙ lent in
    let last : at (c.fill_ways.new.words ++ drop (c.args.budget + 1) c.args.words.now) (c.args.budget + 1 - 1) ≡ at c.fill_ways.new.words c.args.budget = front_last c.fill_ways.new.words c.args.words.now (c.args.budget + 1) row_long c.args.budget refl in
    let row_grown : WaysGrown c.args.weights.now (c.args.budget + 1) c.fill_ways.new.words = rw lent at c.fill_ways.ensures in
    too_many_lem (job_of 6 (c.args.budget ∷ []) c.args.weights.now [] []) c.args.words.now c.fill_ways.new.words c.requires bounds row_long row_grown
    (at (c.fill_ways.new.words ++ drop (c.args.budget + 1) c.args.words.now) (c.args.budget + 1 - 1)) last c.if-words-width.true

pub bounds-words-width-2 : goal.bounds-words-width-2
unfolding job_of lent_of room_by room_of
bounds-words-width-2 c =
    let words_room : c.args.budget + 1 ≤ length c.args.words.now = (kept block_ways (job_of 6 (c.args.budget ∷ []) c.args.weights.now [] []) (lent_of [] c.args.words.now []) c.requires).words_room in
    let lent : length (take (c.args.budget + 1) c.args.words.now) ≡ c.args.budget + 1 = length-take-le (c.args.budget + 1) c.args.words.now words_room in
    let row_long : length c.fill_ways.new.words ≡ c.args.budget + 1 = c.fill_ways.auto.words ∙ lent in
    let inside : c.args.budget + 1 - 1 < length (c.fill_ways.new.words ++ drop (c.args.budget + 1) c.args.words.now) = omega (arith, front_room c.fill_ways.new.words c.args.words.now (c.args.budget + 1) row_long) in
    inside

pub returns : goal.returns
unfolding job_of lent_of room_by room_of rules_of too_many
returns c =
    let bounds : Bounded (c.args.budget + 1) c.args.weights.now = bounded block_ways (job_of 6 (c.args.budget ∷ []) c.args.weights.now [] []) (lent_of [] c.args.words.now []) refl (kept block_ways (job_of 6 (c.args.budget ∷ []) c.args.weights.now [] []) (lent_of [] c.args.words.now []) c.requires) in
    let words_room : c.args.budget + 1 ≤ length c.args.words.now = (kept block_ways (job_of 6 (c.args.budget ∷ []) c.args.weights.now [] []) (lent_of [] c.args.words.now []) c.requires).words_room in
    let lent : length (take (c.args.budget + 1) c.args.words.now) ≡ c.args.budget + 1 = length-take-le (c.args.budget + 1) c.args.words.now words_room in
    let row_long : length c.fill_ways.new.words ≡ c.args.budget + 1 = c.fill_ways.auto.words ∙ lent in
    let last : at (c.fill_ways.new.words ++ drop (c.args.budget + 1) c.args.words.now) (c.args.budget + 1 - 1) ≡ at c.fill_ways.new.words c.args.budget = front_last c.fill_ways.new.words c.args.words.now (c.args.budget + 1) row_long c.args.budget refl in
    let row_grown : WaysGrown c.args.weights.now (c.args.budget + 1) c.fill_ways.new.words = rw lent at c.fill_ways.ensures in
    ways_counted (job_of 6 (c.args.budget ∷ []) c.args.weights.now [] []) c.args.words.now c.fill_ways.new.words c.requires bounds row_long row_grown
    (at (c.fill_ways.new.words ++ drop (c.args.budget + 1) c.args.words.now) (c.args.budget + 1 - 1)) last c.if-words-width.false
