-- `light::pack` meets its contract: the row and the bits of all labels, and the trace back through the bits (`packed`).
use mathlib.Core.List.{[], ◌∷◌}
use Rattle.meaning.specs.Job.{job_of, labels}
use Rattle.light.proofs.Picks.{bit_fits, packed}
use Rattle.light.proofs.pack.Goals as goal

pub trace_bits-requires-clause-by_index : goal.trace_bits-requires-clause-by_index
trace_bits-requires-clause-by_index c =
    bit_fits _ _ _ _ _ _ _ (rw c.requires.row_len.0 at c.fill.ensures)

pub returns : goal.returns
unfolding job_of labels
returns c =
    let job = job_of 1 (c.args.budget ∷ []) c.args.weights.now c.args.values.now [] in
    packed job c.fill.new.row c.fill.new.words (rw c.requires.row_len.0 at c.fill.ensures) c.trace_bits.ensures
