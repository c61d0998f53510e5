-- `sums::solve` meets its contract: a job that is not refused has the words that it needs, and those past them stay.
use mathlib.Core.List.{[], ◌∷◌}
use mathlib.Core.Path.{◌≡◌, sym, ◌∙◌}
use Prim.Native.Nat.{◌+◌, ◌/◌, ◌≤◌}
use lib.ListN.{take, length}
use lib.Seq.{length-take-le}
use Rattle.meaning.specs.Job.{job_of}
use Rattle.meaning.specs.Says.{given}
use Rattle.numbers.specs.Lists.{weights_from}
use Rattle.sums.proofs.Meant.{small, roomy, solved}
use Rattle.sums.proofs.solve.Goals as goal

pub slice_bounds-table-end : goal.slice_bounds-table-end
unfolding job_of
slice_bounds-table-end c =
    let room : c.args.budget / 64 + 1 ≤ length c.args.words.now = roomy (weights_from 4 (c.args.budget ∷ []) c.args.weights.now) c.args.words.now c.requires in
    room

pub slice_bounds-table-end-2 : goal.slice_bounds-table-end-2
unfolding job_of
slice_bounds-table-end-2 c =
    let room : c.args.budget / 64 + 1 ≤ length c.args.words.now = roomy (weights_from 4 (c.args.budget ∷ []) c.args.weights.now) c.args.words.now c.requires in
    let lent : length (take (c.args.budget / 64 + 1) c.args.words.now) ≡ c.args.budget / 64 + 1 = length-take-le (c.args.budget / 64 + 1) c.args.words.now room in
    sym lent

pub table-requires : goal.table-requires
unfolding job_of
table-requires c =
    let room : c.args.budget / 64 + 1 ≤ length c.args.words.now = roomy (weights_from 4 (c.args.budget ∷ []) c.args.weights.now) c.args.words.now c.requires in
    let lent : length (take (c.args.budget / 64 + 1) c.args.words.now) ≡ c.args.budget / 64 + 1 = length-take-le (c.args.budget / 64 + 1) c.args.words.now room in
    (small (weights_from 4 (c.args.budget ∷ []) c.args.weights.now) c.args.words.now c.requires, lent)

pub returns : goal.returns
unfolding job_of
returns c =
    let room : c.args.budget / 64 + 1 ≤ length c.args.words.now = roomy (weights_from 4 (c.args.budget ∷ []) c.args.weights.now) c.args.words.now c.requires in
    let lent : length (take (c.args.budget / 64 + 1) c.args.words.now) ≡ c.args.budget / 64 + 1 = length-take-le (c.args.budget / 64 + 1) c.args.words.now room in
    let table = c.table in
    solved (weights_from 4 (c.args.budget ∷ []) c.args.weights.now) (given table.result) c.args.words.now table.new.words
    c.requires (table.auto.words ∙ lent) table.ensures
