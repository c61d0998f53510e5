-- `numbers::read_section` meets its contract: each of its answers is one of the four laws of `read_section`.
use mathlib.Core.Path.{◌≡◌, sym}
use mathlib.Core.Bool.{true, false}
use native.Mathlib.Omega.{arith}
use Rattle.meaning.specs.Bytes.{whole_section}
use Rattle.meaning.proofs.Numbers.{section_cut, section_unneeded, section_short, section_whole}
use Rattle.numbers.proofs.read_section.Goals as goal

pub returns-then-bytes-place : goal.returns-then-bytes-place
returns-then-bytes-place c = sym (section_cut _ _ _ (omega arith))

pub returns-then-left-lt4 : goal.returns-then-left-lt4
returns-then-left-lt4 c = sym (section_cut _ _ _ (omega arith))

pub returns-then-not-is_needed : goal.returns-then-not-is_needed
returns-then-not-is_needed c =
    let no : c.is_needed.result ≡ false = c.if-not-is_needed.true in
    sym (section_unneeded _ _ _ (omega arith) (cc))

pub returns-then-left-count : goal.returns-then-left-count
returns-then-left-count c =
    let yes : c.is_needed.result ≡ true = c.if-not-is_needed.false in
    sym (section_short _ _ _ (omega arith) (cc) (omega arith))

pub returns : goal.returns
unfolding whole_section
returns c =
    let yes : c.is_needed.result ≡ true = c.if-not-is_needed.false in
    rw c.number_at-found.ensures (sym (section_whole _ _ _ (omega arith) (cc) (omega arith)))
