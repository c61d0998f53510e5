-- `rows::climb` meets its contract: the row is swept stretch by stretch (`sweeping_on`), and stays capped.
use mathlib.Core.Path.{◌≡◌}
use Prim.Native.Nat.{◌+◌, max, min}
use native.Mathlib.Omega.{arith}
use lib.ListN.{length}
use Rattle.rows.specs.Rows.{raised_by}
use Rattle.rows.proofs.Stores.{sweeping_none, sweeping_on, sweeping_all}
use Rattle.rows.proofs.climb.Goals as goal

pub loop-c-init : goal.loop-c-init
loop-c-init c =
    let a = c.args in
    let n = length a.row.now in
    let here : max a.w (min a.w n) ≡ a.w = omega arith in
    (rw here (sweeping_none (raised_by a.v) a.row.now a.w a.w n), c.requires.capped)

pub loop-c-preserved : goal.loop-c-preserved
loop-c-preserved c =
    let a = c.args in
    let l = c.loop-c in
    let n = length a.row.now in
    let end = c.stretch_end-end in
    let up = c.raise_stretch in
    let here : max a.w (min l.c n) ≡ l.c = omega arith in
    let on : max a.w (min (l.c + a.w) n) ≡ end.result = omega (arith, end.ensures) in (
      rw on
          (sweeping_on (raised_by a.v) a.row.now a.w a.w n c.requires.le_w.0 (omega arith) l.c l.row (omega arith) (rw here at l.invariant.0)
          end.result up.new.row (omega arith) (omega (arith, end.ensures)) up.auto.row up.ensures.0),
      rw l.auto.row at up.ensures.1,
    )

pub returns : goal.returns
returns c =
    let a = c.args in
    let l = c.loop-c in
    let n = length a.row.now in
    let d = sweeping_all (raised_by a.v) a.row.now a.w a.w n (max a.w (min l.c n)) l.row (omega arith) l.invariant.0 in
    record { short = λ k h m. d.before k m; long = λ k h m. d.made k m h }
