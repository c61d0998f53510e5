-- `sums::add_bits` meets its contract: the words below those that took the label in vectors take it too, and the lowest takes the bits of one.
use native.Mathlib.Omega.{arith}
use lib.ListN.{length}
use Rattle.std.proofs.Common.{rules}
use Rattle.rows.proofs.Bits.{or_assoc}
use Rattle.sums.proofs.Words.{adding_none, adding_more, bits_all}
use Rattle.sums.proofs.add_bits.Goals as goal

pub loop-m-init : goal.loop-m-init
loop-m-init c =
    let made = c.add_in_vectors-end in
    adding_none _ _ _ _ made.ensures.0.0 (omega (arith, made.ensures.0.1, made.auto.words))

pub loop-m-preserved : goal.loop-m-preserved
loop-m-preserved c =
    let l = c.loop-m in
    rw (← or_assoc)
    (adding_more _ _ _ _ c.requires.1.0 c.requires.1.1 l.words l.m l.invariant c.loop-m-test.true (search rules))

pub returns : goal.returns
returns c =
    let a = c.args in
    let l = c.loop-m in
    let d = l.invariant in
    let len = length a.words.now in
    bits_all a.words.now l.words a.q len l.m a.r c.requires.1.0 c.requires.1.1
    (d.added a.words.now len c.add_in_vectors-end.ensures.1) (omega (arith, d.reached)) (omega (arith, l.auto.words, c.add_in_vectors-end.auto.words))
