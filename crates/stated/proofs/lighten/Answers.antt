-- `stated::lighten` meets its contract: each cell so far is made of two of the row before, which lies before all stores and is as it was.
use mathlib.Core.Path.{refl, ap₂, ◌∙◌}
use Prim.Native.Nat.{◌+◌, ◌-◌}
use native.Mathlib.Omega.{arith}
use Rattle.rows.proofs.Stores.{storing_none, storing_more, storing_all}
use Rattle.stated.specs.LeastWeights.{lighter}
use Rattle.stated.proofs.lighten.Invariants.{made}
use Rattle.stated.proofs.lighten.Goals as goal

pub loop-t-init : goal.loop-t-init
loop-t-init c =
    let a = c.args in
    storing_none a.cells.now a.to a.a a.width (made a.cells.now a.from a.a a.w a.room) c.requires.0

pub loop-t-preserved : goal.loop-t-preserved
loop-t-preserved c =
    let a = c.args in
    let l = c.loop-t in
    let kept = l.invariant.stored.before in
    storing_more a.cells.now a.to a.a a.width (made a.cells.now a.from a.a a.w a.room) l.t (a.to + l.t) c.lesser_weight.result l.cells
    c.loop-t-test.true c.requires.1.1.0 l.invariant refl
    (c.lesser_weight.ensures
    ∙ ap₂ (lighter (a.w + a.room) a.w) (kept (a.from + l.t) (omega arith)) (kept (a.from + (l.t - a.a)) (omega arith)))

pub returns : goal.returns
returns c =
    let a = c.args in
    let l = c.loop-t in
    storing_all a.cells.now a.to a.a a.width (made a.cells.now a.from a.a a.w a.room) l.t l.cells (omega arith) l.invariant
