-- `blocks::lay` meets its contract: the row is swept stretch by stretch (`sweeping_on`), wherever a stretch ends.
use mathlib.Core.Path.{◌≡◌}
use Prim.Native.Nat.{◌+◌, max, min}
use native.Mathlib.Omega.{arith}
use lib.ListN.{length}
use Rattle.rows.proofs.Stores.{sweeping_none, sweeping_on, sweeping_all}
use Rattle.blocks.specs.Sizes.{fewer_of}
use Rattle.blocks.proofs.lay.Goals as goal

pub loop-a-init : goal.loop-a-init
loop-a-init c =
    let a = c.args in
    let n = length a.row.now in
    let here : max a.w (min a.w n) ≡ a.w = omega arith in
    rw here (sweeping_none fewer_of a.row.now a.w a.w n)

pub loop-a-preserved : goal.loop-a-preserved
loop-a-preserved c =
    let a = c.args in
    let l = c.loop-a in
    let n = length a.row.now in
    let end = c.stretch_end-end in
    let made = c.lay_stretch in
    let here : max a.w (min l.a n) ≡ l.a = omega arith in
    let on : max a.w (min (l.a + c.if-w-lt-HEAVY.step) n) ≡ end.result = omega (arith, end.ensures) in
    rw on
    (sweeping_on fewer_of a.row.now a.w a.w n c.requires (omega arith) l.a l.row (omega arith) (rw here at l.invariant)
    end.result made.new.row (omega (arith, end.ensures)) (omega (arith, end.ensures)) made.auto.row made.ensures)

pub returns-after-w-lt-HEAVY : goal.returns-after-w-lt-HEAVY
returns-after-w-lt-HEAVY c =
    let a = c.args in
    let l = c.loop-a in
    let n = length a.row.now in
    sweeping_all fewer_of a.row.now a.w a.w n (max a.w (min l.a n)) l.row (omega arith) l.invariant
