-- `blocks::trace_down` meets its contract: the trace has come down to size i; each turn lays one block of it, or passes it.
use mathlib.Core.Path.{sym, ◌∙◌}
use native.Mathlib.Omega.{arith}
use lib.ListN.{length-set}
use Rattle.blocks.proofs.Laying.{down_taken}
use Rattle.blocks.proofs.trace_down.Goals as goal

pub loop-i-preserved-then-leads : goal.loop-i-preserved-then-leads
loop-i-preserved-then-leads c =
    let l = c.loop-i in (
      l.invariant.0,
      omega arith,
      simp length-set l.invariant.2,
      down_taken _ _ _ l.i l.a _ c.loop-i-test.true l.invariant.0 l.invariant.3 _ c.at-w.ensures (sym c.leads.ensures ∙ c.if-leads.true),
    )
