-- `find_border` finds where the units run out.
use mathlib.Core.Path.{refl, ◌∙◌}
use native.Mathlib.Omega.{arith}
use Rattle.meaning.specs.Lists.{sum}
use Rattle.meaning.specs.Job.{labels}
use Rattle.shares.specs.Borders.{Reaches}
use Rattle.shares.proofs.Borders.{not_at_least, none_found, some_span}
use Rattle.shares.proofs.Borders.{low_up, high_down, still_some}
use Rattle.shares.proofs.Claims.find_border.Goals as goal

pub loop-found-init : goal.loop-found-init
loop-found-init c =
    let j = c.args.self.now in
    let all = sum j.weights in
    let least = c.args.leavings.reach.least in
    let greatest = c.args.leavings.reach.greatest in
    let pos = c.requires.leaves.0.started.positive in
    let reach = c.requires.leaves.0.reach in (
      some_span j all least greatest refl pos reach (omega (arith, c.requires.spare_nonzero, c.requires.leaves.0.units)),
      omega (arith, reach.within),
      none_found j all least greatest refl pos reach,
      omega arith,
      not_at_least j all least greatest refl pos reach,
    )

pub loop-found-preserved-then-close : goal.loop-found-preserved-then-close
loop-found-preserved-then-close c =
    let j = c.args.self.now in
    let l = c.loop-found in
    let reach = c.reach_between-reach.result in
    let near : Reaches j (labels j) l.low l.high reach.least reach.greatest =
    rw c.requires.leaves.0.started.long at c.reach_between-reach.ensures in (
      still_some j l.low l.high reach.least reach.greatest near (omega (arith, l.invariant.2, c.requires.leaves.0.units)) l.invariant.4,
      omega (arith, near.within),
      l.invariant.2 ∙ high_down j l.low l.high reach.least reach.greatest near,
      l.invariant.3,
      low_up j l.low l.high reach.least reach.greatest near l.invariant.4,
    )
