-- `light::raise_few` meets its contract: the cells from k on are raised by old ones, and their bits are in hand (`falling_more`).
use mathlib.Core.Path.{◌∙◌}
use native.Mathlib.Omega.{arith}
use Rattle.light.proofs.Rising.{falling_none, falling_more}
use Rattle.light.proofs.raise_few.Goals as goal

pub loop-k-init : goal.loop-k-init
loop-k-init c = falling_none _ _ _ _ c.args.n

pub loop-k-preserved : goal.loop-k-preserved
loop-k-preserved c =
    let l = c.loop-k in
    falling_more _ _ _ _ c.args.n l.k l.bits _ _ l.row (omega arith) (omega arith) (omega arith) (omega arith) l.invariant
    (c.from.ensures ∙ c.rise.ensures) c.max.ensures
