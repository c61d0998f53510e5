-- `certificate::judge` meets its contract: where a section breaks or bytes are left over it is 11, and else the cells are judged.
use mathlib.Core.Path.{◌≡◌, sym, ap, ◌∙◌}
use native.Mathlib.Omega.{arith}
use lib.ListN.{length}
use Rattle.meaning.specs.Job.{job_of, labels}
use Rattle.meaning.specs.Certificates.{certificate_cells}
use Rattle.verdicts.specs.Asked.{certified, knapsack_in}
use Rattle.numbers.proofs.Parts.{part_long}
use Rattle.certificate.proofs.Counting.{room_asked, few_labels, cells_needed, few_cells}
use Rattle.certificate.proofs.Reading.{part_asked, picks_broken, cells_broken, left_over, all_read}
use Rattle.certificate.proofs.judge.Goals as goal
use Rattle.certificate.proofs.judge.Goals.{After-knapsack_room-needed}

-- there are as many cells as the room has
needed : (c : After-knapsack_room-needed) →
    certificate_cells (knapsack_in c.args.job.now.kind) (certified c.args.job.now) ≡ c.knapsack_room-needed.result.cells
unfolding job_of labels
needed c = cells_needed c.requires _ (sym c.len-n.ensures) c.knapsack_room-needed.result c.knapsack_room-needed.ensures

pub knapsack_room-needed-requires : goal.knapsack_room-needed-requires
unfolding job_of
knapsack_room-needed-requires c = let asked = room_asked c.requires in (omega (arith, asked.0), omega (arith, asked.1))

pub overflow_cast-n : goal.overflow_cast-n
unfolding job_of labels
overflow_cast-n c = omega (arith, few_labels c.requires _ (sym c.len-n.ensures))

pub returns-in_default : goal.returns-in_default
unfolding job_of labels
returns-in_default c =
    rw (c.from.ensures.0, c.from.ensures.1) (picks_broken _ _ _ (part_asked _ _ _ _ (sym c.len-n.ensures) c.in_default.ensures))

pub overflow_cast-many : goal.overflow_cast-many
unfolding job_of labels
overflow_cast-many c = omega (arith, few_cells c.requires _ (sym c.len-n.ensures) c.knapsack_room-needed.result c.knapsack_room-needed.ensures)

pub returns-in_default-section : goal.returns-in_default-section
unfolding job_of labels
returns-in_default-section c =
    rw (c.from-in_default-section.ensures.0, c.from-in_default-section.ensures.1)
    (cells_broken _ _ _ (part_asked _ _ _ _ (sym c.len-n.ensures) c.in-Ok.ensures)
    (part_asked _ _ _ _ (needed (goal.at.returns-in_default-section c).After-knapsack_room-needed) c.in_default-section.ensures))

pub returns-then-cells_end-certificate : goal.returns-then-cells_end-certificate
unfolding job_of labels
returns-then-cells_end-certificate c =
    rw (c.from-then-cells_end-certificate.ensures.0, c.from-then-cells_end-certificate.ensures.1)
    (left_over _ _ _ (part_asked _ _ _ _ (sym c.len-n.ensures) c.in-Ok.ensures)
    (part_asked _ _ _ _ (needed (goal.at.returns-then-cells_end-certificate c).After-knapsack_room-needed) c.in-Ok-section.ensures)
    c.if-cells_end-certificate.true)

pub judge_cells-requires-clause-cells_read : goal.judge_cells-requires-clause-cells_read
unfolding job_of labels
judge_cells-requires-clause-cells_read c = record {
  has_certificates = c.requires;
  long = part_long _ _ (sym c.in-Ok-section.ensures) ∙ sym (needed (goal.at.judge_cells-requires-clause-cells_read c).After-knapsack_room-needed);
}

pub judge_cells-requires-clause-picks_len : goal.judge_cells-requires-clause-picks_len
judge_cells-requires-clause-picks_len c = omega (arith, ap length c.packed.ensures, part_long _ _ (sym c.in-Ok.ensures), c.len-n.ensures)

pub returns : goal.returns
unfolding job_of labels
returns c =
    c.judge_cells.ensures
    ∙ rw c.packed.ensures
    (all_read _ _ _ (part_asked _ _ _ _ (sym c.len-n.ensures) c.in-Ok.ensures)
    (part_asked _ _ _ _ (needed (goal.at.returns c).After-knapsack_room-needed) c.in-Ok-section.ensures)
    (omega arith))
