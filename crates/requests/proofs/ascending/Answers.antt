-- `requests::ascending` meets its contract: the whole test is the test of what is left, from the least number that may come next.
use mathlib.Core.Path.{refl, sym, ◌∙◌}
use Prim.Native.Nat.{ℕ, ◌<◌}
use native.Mathlib.Omega.{arith}
use mathlib.Core.List.{List}
use lib.ListN.{length}
use Rattle.requests.proofs.Judging.{ascends, descends, all_ascend}
use Rattle.requests.proofs.ascending.Goals as goal

pub loop-i-init : goal.loop-i-init
loop-i-init c = refl

pub at-x-requires : goal.at-x-requires
at-x-requires c =
    let list : List ℕ = c.args.numbers.now in
    let inside : c.loop-i.i < length list = omega (arith, c.len-i-end.ensures) in
    inside

pub returns-then-x-least : goal.returns-then-x-least
returns-then-x-least c =
    let list : List ℕ = c.args.numbers.now in
    let inside : c.loop-i.i < length list = omega (arith, c.len-i-end.ensures) in
    sym (c.loop-i.invariant ∙ descends _ _ _ inside (omega (arith, c.at-x.ensures)))

pub loop-i-preserved : goal.loop-i-preserved
loop-i-preserved c =
    let list : List ℕ = c.args.numbers.now in
    let inside : c.loop-i.i < length list = omega (arith, c.len-i-end.ensures) in
    let x = c.at-x in
    rw x.ensures (c.loop-i.invariant ∙ ascends _ _ _ inside (omega (arith, x.ensures)))

pub returns : goal.returns
returns c =
    let list : List ℕ = c.args.numbers.now in
    let l = c.loop-i in
    sym (l.invariant ∙ all_ascend list l.least l.i (omega (arith, c.len-i-end.ensures)))
