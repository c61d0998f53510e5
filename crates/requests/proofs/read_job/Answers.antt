-- `requests::read_job` meets its contract: the job with the lists that are cut out is the one that was read.
use Rattle.std.proofs.lemmas.Result.{err_from_is_err_and}
use Rattle.numbers.specs.TwoSlices.{list_from}
use Rattle.requests.specs.Reading.{ReadAs, ReadInParts, PartsOf}
use Rattle.requests.proofs.Reading.{lists_cut}
use Rattle.requests.proofs.read_job.Goals as goal

pub returns-in_err-parts : goal.returns-in_err-parts
unfolding ReadAs ReadInParts
returns-in_err-parts c =
    let p = err_from_is_err_and c.from_residual.result c.from_residual.ensures.1 in
    rw (p.1, p.2) c.in_err-parts.ensures

pub bytes_at-weights-requires : goal.bytes_at-weights-requires
unfolding ReadInParts
bytes_at-weights-requires c = let h : PartsOf c.args.job.now c.in_ok-parts.parts = c.in_ok-parts.ensures in h.weights_within

pub bytes_at-values-requires : goal.bytes_at-values-requires
unfolding ReadInParts
bytes_at-values-requires c = let h : PartsOf c.args.job.now c.in_ok-parts.parts = c.in_ok-parts.ensures in h.values_within

pub bytes_at-copies-requires : goal.bytes_at-copies-requires
unfolding ReadInParts
bytes_at-copies-requires c = let h : PartsOf c.args.job.now c.in_ok-parts.parts = c.in_ok-parts.ensures in h.copies_within

pub returns : goal.returns
unfolding ReadAs ReadInParts list_from
returns c =
    let h : PartsOf c.args.job.now c.in_ok-parts.parts = c.in_ok-parts.ensures in
    rw (c.packed.ensures, c.packed-2.ensures, c.packed-3.ensures)
    (lists_cut _ h c.bytes_at-weights.ensures c.bytes_at-values.ensures c.bytes_at-copies.ensures)
