-- `certificate::write` meets its contract: the lists are handed over as they came.
use Rattle.certificate.proofs.write.Goals as goal

pub returns : goal.returns
returns c = rw (← c.listed.ensures, ← c.listed-2.ensures, ← c.listed-3.ensures) c.write_job.ensures
