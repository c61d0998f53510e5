-- `write_starts` keeps every start, and gives the spare and how far the remainders reach.
use mathlib.Core.Path.{◌≡◌, refl}
use native.Mathlib.Omega.{arith}
use Rattle.meaning.specs.Lists.{sum}
use Rattle.meaning.specs.Job.{labels}
use Rattle.meaning.specs.Shares.{start_of}
use Rattle.rows.proofs.Stores.{stored_each, stored_none, stored_up}
use Rattle.shares.proofs.Starts.{holds, begun, spare_done, reaches_none, reaches_all}
use Rattle.shares.proofs.Claims.write_starts.Goals as goal

pub loop-i-init : goal.loop-i-init
unfolding sum
loop-i-init c =
    let j = c.args.self.now in
    let h = holds j c.self.view_is c.self.invariant in (
      stored_none c.args.shares.now 0 0 0 (start_of j) (omega arith),
      omega (arith, h.budget_is),
      rw h.summed (reaches_none j 0 (sum j.weights) h.positive),
    )

pub overflow_sub-spare : goal.overflow_sub-spare
overflow_sub-spare c =
    let h = holds c.args.self.now c.self.view_is c.self.invariant in
    let l = c.loop-i in
    let product = c.wide_product-product in
    let one = begun c.args.self.now h l.i product.result c.at-claim.result c.start-whole.result c.remainder-rest.result l.spare (omega arith)
    product.ensures c.at-claim.ensures c.start-whole.ensures c.remainder-rest.ensures l.invariant.1 in
    one.fits

pub loop-i-preserved : goal.loop-i-preserved
loop-i-preserved c =
    let j = c.args.self.now in
    let h = holds j c.self.view_is c.self.invariant in
    let l = c.loop-i in
    let product = c.wide_product-product in
    let rest = c.remainder-rest in
    let one = begun j h l.i product.result c.at-claim.result c.start-whole.result rest.result l.spare (omega arith)
    product.ensures c.at-claim.ensures c.start-whole.ensures rest.ensures l.invariant.1 in (
      stored_up c.args.shares.now 0 0 l.i (start_of j) l.shares l.i c.start-whole.result (omega arith) l.invariant.0 (omega arith) (omega arith)
          one.start_is,
      one.less,
      rw (c.min-least.ensures, c.max-greatest.ensures)
          (reaches_all j l.i (sum j.weights) l.least l.greatest rest.result one.rest_is one.below l.invariant.2),
    )

pub returns : goal.returns
unfolding labels
returns c =
    let j = c.args.self.now in
    let h = holds j c.self.view_is c.self.invariant in
    let l = c.loop-i in
    let all : l.i ≡ labels j = omega arith in (
      record {
        started = record {
          summed = refl;
          positive = h.positive;
          long = omega arith;
          each = λ i b. stored_each c.args.shares.now l.shares l.i (start_of j) l.invariant.0 i (omega arith);
        };
        units = spare_done j l.i l.spare (omega arith) l.invariant.1;
        reach = rw all at l.invariant.2;
      },
      omega (arith, l.invariant.2.within, h.summed),
    )
