-- `host::quabnester_solve_full` meets its contract: the planner's answer by the full way, as numbers.
use Rattle.meaning.specs.Says.{said}
use Rattle.host.proofs.quabnester_solve_full.Goals as goal

pub returns : goal.returns
returns c =
    let given = c.give.ensures in
    record {
      answer = said c.solve_full_bytes.result;
      solved = c.solve_full_bytes.ensures;
      refusal = given.0;
      first_is = given.1.0;
      second_is = given.1.1;
    }
