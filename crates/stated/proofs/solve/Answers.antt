-- `stated::solve` meets its contract: `pack` is handed the needed cells and picks (`roomy`), and what it leaves is the promise (`solved`).
use mathlib.Core.Path.{sym, ◌∙◌}
use native.Mathlib.Omega.{arith}
use mathlib.Core.List.{[], ◌∷◌}
use lib.Seq.{length-take-le}
use Rattle.meaning.specs.Says.{given}
use Rattle.meaning.specs.Lists.{if}
use Rattle.meaning.specs.Job.{job_of, labels, has_q}
use Rattle.stated.proofs.StatedDoor.{keeps, roomy, solved}
use Rattle.stated.proofs.solve.Goals as goal

pub measure-measures-requires : goal.measure-measures-requires
unfolding has_q if job_of
measure-measures-requires c =
    let a = c.args in
    let job = job_of 9 (a.budget ∷ a.q ∷ []) a.weights.now a.values.now [] in
    let kept = (keeps job a.cells.now a.picks.now c.requires).job in
    (kept.few_parts, kept.valued)

pub slice_bounds-pack-end-2 : goal.slice_bounds-pack-end-2
slice_bounds-pack-end-2 c =
    let a = c.args in
    let job = job_of 9 (a.budget ∷ a.q ∷ []) a.weights.now a.values.now [] in
    let room = (keeps job a.cells.now a.picks.now c.requires).cells_room in
    sym (length-take-le c.measure-measures.result.cells a.cells.now (omega (arith, c.measure-measures.ensures.1.1, room)))

pub slice_bounds-pack-end-4 : goal.slice_bounds-pack-end-4
unfolding job_of labels
slice_bounds-pack-end-4 c =
    let a = c.args in
    let job = job_of 9 (a.budget ∷ a.q ∷ []) a.weights.now a.values.now [] in
    let room = (keeps job a.cells.now a.picks.now c.requires).picks_room in
    sym (length-take-le c.len-n.result a.picks.now (omega (arith, c.len-n.ensures, room)))

pub pack-requires-clause-roomy : goal.pack-requires-clause-roomy
unfolding job_of labels
pack-requires-clause-roomy c =
    let a = c.args in
    let m = c.measure-measures in
    let job = job_of 9 (a.budget ∷ a.q ∷ []) a.weights.now a.values.now [] in
    let ok = keeps job a.cells.now a.picks.now c.requires in
    let cells_long = length-take-le m.result.cells a.cells.now (omega (arith, m.ensures.1.1, ok.cells_room)) in
    let picks_long = length-take-le c.len-n.result a.picks.now (omega (arith, c.len-n.ensures, ok.picks_room)) in
    (rw (cells_long, m.ensures.1.1) (roomy job m.result.divisor m.result.width m.ensures.0 m.ensures.1.0), sym (picks_long ∙ c.len-n.ensures))

pub returns : goal.returns
unfolding job_of labels
returns c =
    let a = c.args in
    let m = c.measure-measures in
    let job = job_of 9 (a.budget ∷ a.q ∷ []) a.weights.now a.values.now [] in
    let ok = keeps job a.cells.now a.picks.now c.requires in
    let long = length-take-le m.result.cells a.cells.now (omega (arith, m.ensures.1.1, ok.cells_room)) in
    solved job m.result.divisor m.result.width m.ensures.0 m.ensures.1.0 ok.job.small c.pack.new.cells c.pack.new.picks (given c.pack.result)
    c.pack.ensures a.cells.now a.picks.now m.result.cells c.len-n.result c.requires
    (c.pack.auto.cells ∙ long) m.ensures.1.1 c.len-n.ensures
