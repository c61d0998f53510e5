-- `requests::bytes_at` meets its contract: the part lies within the bytes, as it was asked.
use mathlib.Core.Path.{refl}
use Rattle.meaning.specs.Bytes.{between}
use Rattle.requests.specs.Reading.{bytes_at}
use Rattle.requests.proofs.bytes_at.Goals as goal

pub returns : goal.returns
unfolding between bytes_at
returns c = refl
