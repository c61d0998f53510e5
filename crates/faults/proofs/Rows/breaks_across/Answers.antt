-- `Rows::breaks_across` meets its contract, cell by cell up the column.
use Rattle.std.proofs.Common.{refl, arith}
use Rattle.faults.proofs.Finding.{finds_low, finds_high}
use Rattle.faults.proofs.Across.{crossed_low, crossed_inside, crossed_outside, all_crossed}
use Rattle.faults.proofs.Rows.breaks_across.Goals as goal

pub returns-then-least-cell : goal.returns-then-least-cell
returns-then-least-cell c =
    finds_low (crossed_low _ _ _ _ _ _ _ _ _ _ c.loop-x.invariant c.loop-x-test.true _ c.cell.ensures.0 c.if-least-cell.true)

-- the cell is kept, so all before the next one are
pub loop-x-preserved-then-y-self : goal.loop-x-preserved-then-y-self
loop-x-preserved-then-y-self c =
    crossed_inside _ _ _ _ _ _ _ _ _ _ c.loop-x.invariant c.loop-x-test.true _ c.cell.ensures.0
    c.if-least-cell.false (omega arith) _ refl _ _ c.if-y-self.true c.cell-then-y-self.ensures.0 c.min-least.ensures

pub loop-x-preserved : goal.loop-x-preserved
loop-x-preserved c =
    crossed_outside _ _ _ _ _ _ _ _ _ _ c.loop-x.invariant c.loop-x-test.true _ c.cell.ensures.0
    c.if-least-cell.false (omega arith) _ refl c.if-y-self.false

pub returns : goal.returns
returns c = finds_high (all_crossed _ _ _ _ _ _ _ _ _ _ c.loop-x.invariant c.requires.le_w.0 (omega arith))
