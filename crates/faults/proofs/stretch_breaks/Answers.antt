-- `faults::stretch_breaks` meets its contract: from where the label fits on, the row is passed against itself.
use Rattle.meaning.specs.Bytes.{numbers_in}
use Rattle.faults.proofs.Rule.{too_heavy, stretch_found}
use Rattle.faults.proofs.stretch_breaks.Goals as goal

pub returns-then-end-start : goal.returns-then-end-start
returns-then-end-start c = too_heavy _ _ _ _ _ _ c.max-start.ensures c.if-end-start.true

pub returns : goal.returns
returns c =
    let a = c.args in
    stretch_found (numbers_in a.cells.now) a.w a.v a.from a.end c.max-start.result c.max-start.ensures c.if-end-start.false
    c.breaks_at.result c.breaks_at.ensures
