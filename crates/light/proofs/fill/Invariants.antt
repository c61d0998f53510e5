-- `light::fill` meets its contract: one label more (`lit_next`), and each still fits 32 bits (`row_fits`).
use lib.ListN.{length}
use Rattle.light.specs.Labels.{Lit}
use Rattle.light.proofs.fill.Given as goal

abbrev pub invariant-loop-i : goal.invariant-loop-i
invariant-loop-i l = Lit l.weights l.values (length l.fn.row) l.per l.i l.row l.words
