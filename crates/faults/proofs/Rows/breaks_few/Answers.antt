-- `Rows::breaks_few` meets its contract, count by count.
use Rattle.std.proofs.Common.{◌*◌, ◌<◌, refl, arith}
use Rattle.faults.proofs.Finding.{finds_low, finds_high}
use Rattle.faults.proofs.Counts.{two_low, two_next, counts_all}
use Rattle.faults.proofs.Rows.breaks_few.Goals as goal

pub returns-then-breaks_two-2 : goal.returns-then-breaks_two-2
returns-then-breaks_two-2 c =
    let two : 2 * c.loop-pair.pair < c.args.self.now.copies = omega arith in
    finds_low (two_low _ _ _ _ _ _ _ _ c.requires.copies_fit.fit two (c.breaks_two-in-loop-pair.ensures.broken c.if-breaks_two-2.true))

pub loop-pair-preserved : goal.loop-pair-preserved
loop-pair-preserved c =
    let two : 2 * c.loop-pair.pair < c.args.self.now.copies = omega arith in
    record {
      this = record { far_is = refl; gain_is = refl };
      high = λ k under.
          two_next _ _ _ _ _ _ _ _ c.requires.copies_fit.fit two (c.breaks_two-in-loop-pair.ensures.kept c.if-breaks_two-2.false)
          c.loop-pair.invariant.high k (omega arith);
    }

pub returns-then-copies-eq1 : goal.returns-then-copies-eq1
returns-then-copies-eq1 c = finds_high (counts_all _ _ _ _ _ _ _ _ _ _ (omega arith) c.loop-pair.invariant)
