-- `faults::row_breaks` meets its contract: what is found for the weight and the copies that fit holds for the label's own.
use Rattle.std.proofs.Common.{arith}
use Rattle.faults.proofs.Rule.{part_fits, part_found}
use Rattle.faults.proofs.row_breaks.Goals as goal

pub breaks_few-requires-clause-copies_fit : goal.breaks_few-requires-clause-copies_fit
breaks_few-requires-clause-copies_fit c =
    let part = c.requires.budgets in
    part_fits _ c.args.w _ c.min-weight.ensures _ _ part.weighs part.some c.min-copies.ensures (omega (arith, part.inside, part.narrow))

pub returns-then-copies-le-FEW : goal.returns-then-copies-le-FEW
returns-then-copies-le-FEW c =
    let part = c.requires.budgets in
    part_found _ c.args.w _ c.min-weight.ensures _ _ part.weighs part.some c.min-copies.ensures _ _ c.args.width _
    c.requires.row_there.not_first _ c.breaks_few.ensures

pub breaks_many-requires-clause-copies_fit : goal.breaks_many-requires-clause-copies_fit
breaks_many-requires-clause-copies_fit c =
    let part = c.requires.budgets in
    part_fits _ c.args.w _ c.min-weight.ensures _ _ part.weighs part.some c.min-copies.ensures (omega (arith, part.inside, part.narrow))

pub returns : goal.returns
returns c =
    let part = c.requires.budgets in
    part_found _ c.args.w _ c.min-weight.ensures _ _ part.weighs part.some c.min-copies.ensures _ _ c.args.width _
    c.requires.row_there.not_first _ c.breaks_many.ensures
