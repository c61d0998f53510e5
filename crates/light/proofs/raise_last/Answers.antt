-- `light::raise_last` meets its contract: a few cells (`risen_high`), or 64 of which some are raised already (`risen_over`).
use native.Mathlib.Omega.{arith}
use Rattle.light.proofs.Blocks.{risen_high, risen_over}
use Rattle.light.proofs.raise_last.Goals as goal

pub returns-then-w-n-ge64 : goal.returns-then-w-n-ge64
returns-then-w-n-ge64 c =
    let a = c.args in
    risen_over a.row.now c.raise_word.new.row a.n a.w a.v c.raise_word.result (omega (arith, c.requires.n_bound))
    (omega arith) (omega arith) c.requires.by_index_2 c.raise_word.ensures

pub returns : goal.returns
returns c =
    let a = c.args in
    risen_high a.row.now c.raise_few.new.row a.n a.w a.v c.raise_few.result (omega (arith, c.requires.n_bound))
    c.raise_few.ensures
