-- `sums::add_in_vectors` meets its contract: where the words are many, each takes the bits of two old words; where they are few, none does.
use Prim.Native.Nat.{◌+◌, ◌*◌}
use mathlib.Core.Path.{◌≡◌}
use native.Mathlib.Omega.{arith}
use lib.ListN.{length}
use Rattle.std.proofs.Common.{rules}
use Rattle.sums.specs.Words.{Added}
use Rattle.sums.proofs.Words.{adding_none, adding_more}
use Rattle.sums.proofs.add_in_vectors.Goals as goal

pub loop-m-init : goal.loop-m-init
loop-m-init c = adding_none _ _ _ _ c.requires.0 (omega arith)

pub loop-m-preserved : goal.loop-m-preserved
loop-m-preserved c =
    let l = c.loop-m in
    adding_more _ _ _ _ c.requires.1.0 c.requires.1.1 l.words l.m l.invariant c.loop-m-test.true (search rules)

pub returns : goal.returns
returns c =
    let a = c.args in
    let l = c.loop-m in
    let len = length a.words.now in
    let end : l.m ≡ a.q + 1 = omega (arith, l.invariant.reached) in
    let none : Added a.words.now a.words.now (64 * a.q + a.r) len len = search rules in
    ((omega arith, omega (arith, c.requires.0)), rw end at (l.invariant.added a.words.now len none))
