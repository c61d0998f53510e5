-- `Numbers::at` meets its contract, by the two laws of what stands at a place: within the numbers, and past them. With no numbers each place is past them,
-- and with no bytes each is within.
use mathlib.Core.Path.{◌≡◌, sym, ap, ◌∙◌}
use mathlib.Core.Logic.{◌⊎◌, inl, inr}
use native.Mathlib.Omega.{arith}
use lib.ListN.{length}
use Rattle.std.specs.Prelude.{ℕ, ◌-◌, ◌≤◌, ◌<◌, Bool, true, false, List}
use Rattle.std.specs.Bool.{◌==◌}
use Rattle.std.proofs.lemmas.Bool.{eqb-true}
use Rattle.meaning.specs.Lists.{at}
use Rattle.meaning.specs.Bytes.{numbers_in}
use Rattle.meaning.proofs.Numbers.{numbers_long}
use Rattle.numbers.specs.TwoSlices.{list_from}
use Rattle.numbers.proofs.TwoSlices.{list_long, list_first, list_rest}
use Rattle.numbers.proofs.Numbers.at.Goals as goal

-- a place of a list is one of its numbers where there are no bytes, or where it comes before them
within : (xs b : List ℕ) (i : ℕ) (none : Bool) → i < length (list_from xs b) → none ≡ (length b == 0)
    → (none ≡ true) ⊎ ((none ≡ false) × (i < length xs)) → i < length xs
within xs b i none inside e (inl t) = let z : length b ≡ 0 = eqb-true (length b) 0 (sym e ∙ t) in omega (arith, z, inside, list_long xs b)
within xs b i none inside e (inr (_, before)) = before

-- a place past the numbers is so far into the bytes
past : (xs b : List ℕ) (i j : ℕ) → length xs ≤ i → j ≡ i - length xs → at (numbers_in b) j ≡ at (list_from xs b) i
past xs b i j h e = ap (at (numbers_in b)) e ∙ sym (list_rest xs b i h)

pub number_in-requires : goal.number_in-requires
number_in-requires c =
    let k = c.self.inside.kept in
    let none : length k.numbers.now ≡ 0 = eqb-true _ 0 (sym c.is_empty.ensures ∙ c.if-is_empty.true) in
    omega (arith, none, ap length c.self.view_is, list_long k.numbers.now k.bytes.now, numbers_long k.bytes.now)

pub returns-then-is_empty : goal.returns-then-is_empty
returns-then-is_empty c =
    let k = c.self.inside.kept in
    let none : length k.numbers.now ≡ 0 = eqb-true _ 0 (sym c.is_empty.ensures ∙ c.if-is_empty.true) in
    c.number_in.ensures
    ∙ past k.numbers.now k.bytes.now c.args.i _ (omega (arith, none)) (omega (arith, none))
    ∙ ap (λ xs. at xs c.args.i) c.self.view_is

pub bounds-numbers-i : goal.bounds-numbers-i
bounds-numbers-i c =
    let k = c.self.inside.kept in
    let inside : c.args.i < length (list_from k.numbers.now k.bytes.now) = omega (arith, ap length c.self.view_is) in
    let first : c.args.i < length k.numbers.now = within _ k.bytes.now c.args.i _ inside c.is_empty-2.ensures c.if-i-n.either in
    omega (arith, first)

pub number_in-requires-else-i-n : goal.number_in-requires-else-i-n
number_in-requires-else-i-n c =
    let k = c.self.inside.kept in
    omega (arith, ap length c.self.view_is, list_long k.numbers.now k.bytes.now, numbers_long k.bytes.now)

pub returns-then-i-n : goal.returns-then-i-n
returns-then-i-n c =
    let k = c.self.inside.kept in
    let inside : c.args.i < length (list_from k.numbers.now k.bytes.now) = omega (arith, ap length c.self.view_is) in
    let first : c.args.i < length k.numbers.now = within _ k.bytes.now c.args.i _ inside c.is_empty-2.ensures c.if-i-n.either in
    sym (list_first k.numbers.now k.bytes.now c.args.i first) ∙ ap (λ xs. at xs c.args.i) c.self.view_is

pub returns-else-i-n : goal.returns-else-i-n
returns-else-i-n c =
    let k = c.self.inside.kept in
    c.number_in-else-i-n.ensures ∙ past k.numbers.now k.bytes.now c.args.i _ (omega arith) (omega arith) ∙ ap (λ xs. at xs c.args.i) c.self.view_is
