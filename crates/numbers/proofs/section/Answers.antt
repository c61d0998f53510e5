-- `numbers::section` meets its contract: the part lies where the section was found.
use mathlib.Core.Path.{sym, ap, ◌∙◌}
use native.Mathlib.Omega.{arith}
use Rattle.std.proofs.lemmas.Result.{err_from_is_err_and}
use Rattle.meaning.specs.Bytes.{between}
use Rattle.meaning.proofs.Numbers.{SectionFound, section_found}
use Rattle.numbers.specs.Sections.{part_of, section_in}
use Rattle.numbers.proofs.section.Goals as goal

-- the section is there
there : (c : goal.In_ok-start) → SectionFound c.args.needed c.args.bytes.now c.args.place c.in_ok-start.start c.in_ok-start.field-0-1 c.in_ok-start.next
there c = section_found _ _ _ _ _ _ (sym c.read_section.ensures ∙ c.in_ok-start.was)

pub returns-in_err-start : goal.returns-in_err-start
unfolding section_in
returns-in_err-start c =
    let p = err_from_is_err_and c.from_residual.result c.from_residual.ensures.1 in
    rw (p.1, p.2) (ap (part_of c.args.bytes.now) (sym c.in_err-start.was ∙ c.read_section.ensures))

pub slice_bounds-result-count : goal.slice_bounds-result-count
slice_bounds-result-count c = omega (arith, (there c).starts, (there c).ends)

pub slice_bounds-result-start : goal.slice_bounds-result-start
slice_bounds-result-start c = slice_bounds-result-count c

pub slice_bounds-result-end : goal.slice_bounds-result-end
slice_bounds-result-end c = (there c).inside

pub returns : goal.returns
unfolding section_in between
returns c = ap (part_of c.args.bytes.now) (sym c.in_ok-start.was ∙ c.read_section.ensures)
