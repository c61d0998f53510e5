-- `host::quabnester_check` meets its contract: the checker says what the one verdict says.
use mathlib.Core.Path.{ap, ◌∙◌}
use Rattle.meaning.specs.Answers.{VerdictNumbers}
use Rattle.meaning.specs.Certificates.{Checked}
use Rattle.meaning.specs.Host.{refusal_number}
use Rattle.host.proofs.quabnester_check.Goals as goal

pub returns : goal.returns
unfolding Checked refusal_number
returns c = c.verdict_refusal.ensures ∙ ap (λ (s : VerdictNumbers). s.refusal) c.check.ensures
