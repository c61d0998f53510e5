-- `knapsack::trace_along` meets its contract: the trace has come to a label; each turn takes one of it, which weighs something, or passes it.
use mathlib.Core.Path.{◌≡◌, sym, ◌∙◌}
use native.Mathlib.Numerals.{add-one}
use native.Mathlib.Omega.{arith}
use lib.ListN.{length}
use Rattle.std.proofs.Common.{rules}
use Rattle.meaning.specs.Bounds.{most_budget}
use Rattle.rows.specs.Traces.{turn_of, taken, passed}
use Rattle.rows.proofs.LeadsOn.{leads_true}
use Rattle.knapsack.specs.Traces.{TraceAlong}
use Rattle.knapsack.proofs.FreeRow.{along_begins, along_few}
use Rattle.knapsack.proofs.trace_along.Goals as goal

pub loop-label-init : goal.loop-label-init
loop-label-init c = record {
  traced = along_begins _ _ _ _ _ (c.fill.auto.self ∙ sym c.requires.capped.1) (search rules);
  some_of = omega arith;
  within = omega (arith, c.requires.bounded.wide);
}

pub overflow_sub-c-then-leads : goal.overflow_sub-c-then-leads
overflow_sub-c-then-leads c = (leads_true _ _ _ _ (sym c.leads.ensures ∙ c.if-leads.true)).0

pub overflow_add-picks : goal.overflow_add-picks
unfolding most_budget
overflow_add-picks c =
    let l = c.loop-label in
    let b = c.requires.bounded in
    omega (arith, along_few _ _ _ _ l.label l.c l.picks l.invariant.traced l.label (b.heavy l.label (omega arith)), b.narrow)

pub loop-label-smaller-then-leads : goal.loop-label-smaller-then-leads
loop-label-smaller-then-leads c =
    let light = (leads_true _ _ _ _ (sym c.leads.ensures ∙ c.if-leads.true)).0 in
    omega (arith, light, c.at-w.ensures, c.requires.bounded.heavy c.loop-label.label (omega arith))

pub loop-label-preserved-then-leads : goal.loop-label-preserved-then-leads
unfolding turn_of
loop-label-preserved-then-leads c =
    let w = c.at-w.ensures in
    let l = c.loop-label in record {
      traced = rw (add-one, w) (taken l.invariant.traced (omega arith) (rw (← w, ← c.at-v.ensures) (sym c.leads.ensures ∙ c.if-leads.true)));
      some_of = l.invariant.some_of;
      within = omega arith;
    }

pub loop-label-preserved : goal.loop-label-preserved
unfolding turn_of
loop-label-preserved c =
    let l = c.loop-label in record {
      traced = rw add-one (passed l.invariant.traced (omega arith)
          (rw (← c.at-w.ensures, ← c.at-v.ensures) (sym c.leads.ensures ∙ c.if-leads.false)));
      some_of = omega arith;
      within = l.invariant.within;
    }

pub returns : goal.returns
unfolding TraceAlong
returns c =
    let all : c.loop-label.label ≡ length c.args.weights.now = omega arith in
    rw all at c.loop-label.invariant.traced
