-- `light::word` meets its contract: the rows of bytes are the bits by columns (`columns`), and these are turned (`turned_columns`).
use mathlib.Core.Path.{◌∙◌}
use native.Mathlib.Omega.{arith}
use Rattle.meaning.specs.Lists.{at}
use Rattle.light.specs.Bits.{Few}
use Rattle.light.proofs.Turns.{columns, turned_columns}
use Rattle.light.proofs.word.Goals as goal

pub returns : goal.returns
unfolding Few
returns c =
    let f = at c.args.b.now in
    c.turn.ensures
    ∙ turned_columns f _ c.requires
    (omega (
      arith,
      columns f,
      c.eight-5.ensures.0,
      c.eight-6.ensures.0,
      c.eight-7.ensures.0,
      c.eight-8.ensures.0,
      c.eight.ensures.0,
      c.eight-2.ensures.0,
      c.eight-3.ensures.0,
      c.eight-4.ensures.0,
    ))
