-- `numbers::is_needed` meets its contract: any count, or just the needed one.
use Rattle.std.proofs.Common.{rules}
use Rattle.meaning.specs.Bytes.{is_needed}
use Rattle.numbers.proofs.is_needed.Goals as goal

pub returns : goal.returns
unfolding is_needed
returns c = search rules
