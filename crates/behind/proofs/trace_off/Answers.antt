-- `behind::trace_off` meets its contract: each turn goes on by the label that its total shows, to a total that shows an earlier one.
use mathlib.Core.Path.{refl, sym, ◌∙◌}
use borrow.Author.Rules.{rules}
use native.Mathlib.Omega.{arith}
use lib.ListN.{length-set}
use Rattle.meaning.specs.Lists.{at}
use Rattle.behind.specs.Firsts.{ShowsLabel, start, taken}
use Rattle.behind.proofs.trace_off.Goals as goal

pub loop-t-init : goal.loop-t-init
loop-t-init c = (
  omega (arith, c.requires.traceable.wide),
  c.requires.traceable.unmarked,
  refl,
  start {picks = c.fill.new.self} (c.fill.ensures.len ∙ sym c.requires.weights_len) (search rules),
)

pub loop-t-preserved : goal.loop-t-preserved
loop-t-preserved c =
    let l = c.loop-t in
    let shows : ShowsLabel (at c.args.row.now) c.args.weights.now l.t = c.requires.traceable.labelled l.t c.loop-t-test.true l.invariant.0 l.invariant.1 in
    let less = shows.earlier in (
      omega (arith, l.invariant.0),
      λ marked. omega (arith, rw c.at.ensures at marked, less, shows.one_of, c.requires.traceable.few),
      simp length-set l.invariant.2,
      rw c.at.ensures (taken l.invariant.3 c.loop-t-test.true),
    )
