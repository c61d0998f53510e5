-- `light::raise_label` meets its contract: one block more (`blocks_more`), then the last one and the words below it (`blocks_all`).
use Prim.Native.Nat.{◌+◌, ◌-◌, ◌%◌}
use native.Mathlib.Omega.{arith}
use lib.ListN.{length}
use Rattle.light.proofs.Blocks.{blocks_none, blocks_more, blocks_all, risen_none}
use Rattle.light.proofs.raise_label.Goals as goal

pub returns-then-width-w : goal.returns-then-width-w
returns-then-width-w c =
    let a = c.args in
    risen_none a.row.now a.w a.v a.words.now c.clear.new.words (length a.words.now) (omega arith)
    (omega (arith, c.requires.in_bounds)) c.clear.ensures

pub loop-end-init : goal.loop-end-init
loop-end-init c = blocks_none c.args.row.now c.args.w c.args.v c.args.words.now (omega arith) c.requires.in_bounds.1

pub loop-end-preserved : goal.loop-end-preserved
loop-end-preserved c =
    let l = c.loop-end in
    let a = c.args in
    let word = c.raise_word-bits in
    blocks_more a.row.now a.w a.v ((length c.args.row.now - 1) % 64 + 1) (length a.words.now) l.row word.new.row l.words l.m l.end l.above word.result
    c.joined.result (omega arith) (omega arith) c.loop-end.invariant (omega arith) word.ensures word.auto.row c.joined.ensures

pub returns : goal.returns
returns c =
    let l = c.loop-end in
    let a = c.args in
    let b = c.loop-end.invariant in
    blocks_all a.row.now a.w a.v ((length c.args.row.now - 1) % 64 + 1) (length a.words.now) l.row c.raise_last-bits.new.row l.words l.m l.end l.above
    c.raise_last-bits.result c.joined-2.result (omega arith) (omega arith) b c.lower_words.new.words (omega arith)
    (omega (arith, b.place)) c.raise_last-bits.ensures c.joined-2.ensures c.lower_words.ensures (omega (arith, c.requires.in_bounds))
