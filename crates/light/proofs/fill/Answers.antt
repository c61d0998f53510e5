-- `light::fill` meets its contract: one label more (`lit_next`), and each still fits 32 bits (`row_fits`).
use native.Mathlib.Omega.{arith}
use lib.ListN.{length}
use Rattle.std.proofs.Common.{rules}
use Rattle.light.specs.Labels.{row_after}
use Rattle.light.proofs.Labels.{row_fits, lit_next}
use Rattle.light.proofs.fill.Goals as goal

pub loop-i-init : goal.loop-i-init
unfolding row_after
loop-i-init c = search rules

pub raise_label-requires-clause-le_w : goal.raise_label-requires-clause-le_w
raise_label-requires-clause-le_w c =
    let l = c.loop-i in
    let w = c.at-w.ensures in (
      omega (arith, w, c.requires.bounded.heavy l.i (omega arith)),
      λ k h.
          let fits = row_fits _ _ _ c.requires.bounded l.i (omega arith) k (omega (arith, w)) in
          omega (arith, w, c.at-v.ensures, l.invariant.cells k (omega arith), fits),
    )

pub loop-i-preserved : goal.loop-i-preserved
loop-i-preserved c =
    let l = c.loop-i in
    let up = c.raise_label in
    lit_next _ _ _ _ (length c.args.weights.now) l.i l.row _ l.words _ (omega arith) (omega arith) (omega (arith, c.requires.per_value.1))
    l.invariant up.auto.words
    (rw (l.auto.row, c.fill.auto.self, c.at-w.ensures, c.at-v.ensures) at up.ensures)
