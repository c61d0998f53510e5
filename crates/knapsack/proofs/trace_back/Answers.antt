-- `knapsack::trace_back` meets its contract: the trace has come back to row i, and the picks from i on are the counts that it found (`trace_more`).
use Prim.Native.Nat.{◌-◌}
use native.Mathlib.Nat.{suc-mul}
use native.Mathlib.Omega.{arith}
use lib.Seq.{drop-length}
use Rattle.meaning.specs.Bounds.{most_budget}
use Rattle.rows.specs.Traces.{begin}
use Rattle.rows.proofs.AnyRows.{trace_more}
use Rattle.knapsack.proofs.trace_back.Goals as goal

pub loop-i-init : goal.loop-i-init
loop-i-init c = (omega (arith, c.requires.bounded.wide), rw (c.requires.width_value.1, drop-length c.args.picks.now) begin)

pub least_count-x-requires-clause-some_count : goal.least_count-x-requires-clause-some_count
least_count-x-requires-clause-some_count c =
    let l = c.loop-i in
    rw (c.at-w.ensures, c.at-v.ensures) (rw suc-mul at (c.requires.by_index (l.i - 1) l.c (omega arith) l.invariant.0))

pub overflow_mul-c : goal.overflow_mul-c
unfolding most_budget
overflow_mul-c c = omega (arith, c.least_count-x.ensures.made.spent, c.requires.bounded.narrow)

pub loop-i-preserved : goal.loop-i-preserved
loop-i-preserved c =
    let w = c.at-w.ensures in
    let least = rw (w, c.at-v.ensures) at c.least_count-x.ensures in
    let l = c.loop-i in (
      omega arith,
      rw w (trace_more _ _ _ _ _ l.i l.c _ l.picks (omega arith) (omega arith) l.invariant.1 (rw suc-mul least)),
    )
