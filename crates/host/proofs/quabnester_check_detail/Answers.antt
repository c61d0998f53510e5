-- `host::quabnester_check_detail` meets its contract: the checker says what the one verdict says.
use mathlib.Core.Path.{ap, ◌∙◌}
use Prim.Native.Nat.{◌+◌}
use Rattle.meaning.specs.Answers.{VerdictNumbers}
use Rattle.meaning.specs.Certificates.{Checked}
use Rattle.meaning.specs.Host.{value_or_place}
use Rattle.host.proofs.quabnester_check_detail.Goals as goal

pub returns : goal.returns
unfolding Checked value_or_place
returns c = c.verdict_detail.ensures ∙ ap (λ (s : VerdictNumbers). s.value + s.place) c.check.ensures
