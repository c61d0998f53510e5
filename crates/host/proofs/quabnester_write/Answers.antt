-- `host::quabnester_write` meets its contract: the writer's answer as numbers.
use Rattle.meaning.specs.Reports.{reported}
use Rattle.meaning.specs.Answers.{written_numbers}
use Rattle.host.proofs.quabnester_write.Goals as goal

pub returns-in-Ok : goal.returns-in-Ok
unfolding written_numbers
returns-in-Ok c =
    let writer = c.write_bytes in
    record {
      answer = reported writer.result;
      writes = writer.ensures;
      refusal = rw c.in-Ok.is;
      bytes_are = rw c.in-Ok.is;
    }

pub returns-in-Err : goal.returns-in-Err
unfolding written_numbers
returns-in-Err c =
    let writer = c.write_bytes in
    record {
      answer = reported writer.result;
      writes = writer.ensures;
      refusal = rw c.in-Err.is c.number.ensures;
      bytes_are = rw c.in-Err.is;
    }
