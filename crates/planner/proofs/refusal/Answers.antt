-- `planner::refusal` meets its contract: 3 to 5 are asked, and then 6.
use mathlib.Core.Path.{sym, ◌∙◌, refl}
use native.Mathlib.Omega.{arith}
use Rattle.std.proofs.lemmas.Result.{err_from_is_err_and}
use Rattle.meaning.proofs.Refusing.{some_number}
use Rattle.planner.proofs.Preamble.{room_unasked, has_the_room, lacks_the_room}
use Rattle.planner.proofs.refusal.Goals as goal

pub returns-in_err-job_refusal : goal.returns-in_err-job_refusal
returns-in_err-job_refusal c kind needs_sum =
    let p = err_from_is_err_and c.from_residual.result c.from_residual.ensures.1 in
    rw (p.1, p.2)
    (room_unasked _ _ _ _ (c.in_err-job_refusal.ensures kind needs_sum) (λ none. omega (arith, some_number c.in_err-job_refusal.field-0.0)))

pub returns-then-room_fits : goal.returns-then-room_fits
returns-then-room_fits c kind needs_sum =
    has_the_room _ _ _ _ (c.in_ok-job_refusal.ensures kind needs_sum) refl (sym c.room_fits.ensures ∙ c.if-room_fits.true)

pub returns-else-room_fits : goal.returns-else-room_fits
returns-else-room_fits c kind needs_sum =
    lacks_the_room _ _ _ _ (c.in_ok-job_refusal.ensures kind needs_sum) refl (sym c.room_fits.ensures ∙ c.if-room_fits.false)
