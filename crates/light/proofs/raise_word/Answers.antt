-- `light::raise_word` meets its contract: first the sums of the old row, then cell by cell what they raise (`raising_more`, `raising_all`).
use native.Mathlib.Omega.{arith}
use Rattle.light.specs.Bits.{Few}
use Rattle.light.proofs.Rising.{raising_more, raising_all}
use Rattle.light.proofs.raise_word.Goals as goal

pub loop-i-preserved : goal.loop-i-preserved
loop-i-preserved c =
    let l = c.loop-i in
    let sum = c.loop-k.invariant.1 l.i (omega arith) in
    raising_more _ _ _ _ l.i _ _ _ l.row l.bits (omega arith) (omega arith) l.invariant sum c.rise.ensures c.max.ensures

pub word-requires : goal.word-requires
unfolding Few
word-requires c = λ m h. omega (arith, c.loop-i.invariant.each m (omega arith))

pub returns : goal.returns
returns c = let l = c.loop-i in raising_all _ _ _ _ l.i _ l.row l.bits (omega arith) l.invariant c.word.ensures
