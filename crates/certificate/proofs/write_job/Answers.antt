-- `certificate::write_job` meets its contract: turned away by 2 to 5, or copied out.
use mathlib.Core.Path.{sym}
use native.Mathlib.Omega.{arith}
use Rattle.std.proofs.lemmas.Result.{err_from_is_err_and}
use Rattle.meaning.specs.Job.{job_of, labels}
use Rattle.meaning.proofs.Refusing.{some_number}
use Rattle.verdicts.specs.Asked.{certified}
use Rattle.certificate.specs.Copying.{CopiedFor}
use Rattle.certificate.proofs.Counting.{few_labels, room_asked, cells_needed, few_cells}
use Rattle.certificate.proofs.Refusing.{not_refused}
use Rattle.certificate.proofs.Copying.{turned_away}
use Rattle.certificate.proofs.write_job.Goals as goal

pub returns-in_err-job_refusal : goal.returns-in_err-job_refusal
returns-in_err-job_refusal c =
    let p = err_from_is_err_and c.from_residual.result c.from_residual.ensures.1 in
    rw (p.1, p.2)
    (turned_away (certified c.args.job.now) c.args.picks.now c.args.cells.now c.args.out.now _ c.in_err-job_refusal.ensures
    (λ none. omega (arith, some_number c.in_err-job_refusal.field-0.0)))

pub knapsack_room-room-requires : goal.knapsack_room-room-requires
unfolding job_of
knapsack_room-room-requires c =
    let asked = room_asked (not_refused (certified c.args.job.now) (sym c.in_ok-job_refusal.ensures)) in
    (omega (arith, asked.0), omega (arith, asked.1))

pub copy_out-requires : goal.copy_out-requires
unfolding job_of labels
copy_out-requires c =
    let has = not_refused (certified c.args.job.now) (sym c.in_ok-job_refusal.ensures) in
    (few_labels has _ (sym c.len-n.ensures), few_cells has _ (sym c.len-n.ensures) _ c.knapsack_room-room.ensures)

pub returns : goal.returns
unfolding CopiedFor job_of labels
returns c =
    let has = not_refused (certified c.args.job.now) (sym c.in_ok-job_refusal.ensures) in
    c.copy_out.ensures _ _ has (sym c.len-n.ensures)
    (cells_needed has _ (sym c.len-n.ensures) c.knapsack_room-room.result c.knapsack_room-room.ensures)
