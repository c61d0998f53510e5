-- `certificate::write_bytes` meets its contract: what the bytes are read as is written for.
use Rattle.meaning.proofs.Budgets.{writer_ignores}
use Rattle.requests.proofs.Reading.{unread, read_in}
use Rattle.certificate.proofs.Copying.{no_job, job_in_bytes}
use Rattle.certificate.proofs.write_bytes.Goals as goal

pub returns-in-Ok : goal.returns-in-Ok
returns-in-Ok c =
    let j = c.in-Ok.request in
    job_in_bytes _ _ _ _ _ _ _ (read_in _ c.in-Ok.is c.read_job.ensures) (writer_ignores j.kind _ _ _ j.budget j.q _ _ _ _ _ c.write_job.ensures)

pub returns-in-Err : goal.returns-in-Err
returns-in-Err c = no_job _ _ _ _ c.in-Err.field-0 (unread _ c.in-Err.is c.read_job.ensures)
