-- The lines of closed answers, byte for byte, as document 01 shows them.
-- Assumes nothing.
use Prim.Native.Nat.{ℕ}
use mathlib.Core.Path.{◌≡◌, refl}
use mathlib.Core.Bool.{true, false}
use mathlib.Core.List.{List, [], ◌∷◌}
use Rattle.std.specs.Prelude.{Err}
use Rattle.meaning.specs.Says.{said_by}
use Rattle.meaning.specs.Says as Says
use Rattle.meaning.specs.Lists.{if}
use Rattle.print.specs.Lines.{ascii, decimal_within, decimal_of, after_blank, after_blanks, line, line_of, picks_line, head_lines, lines_of}

-- `unfolding opens` unfolds all of them
unfoldable opens : Unit {0}
unfolding if ascii decimal_within decimal_of after_blank after_blanks line line_of picks_line head_lines lines_of
opens = tt

-- a text is its bytes
text_bytes : ascii "picks 0\n" ≡ 112 ∷ 105 ∷ 99 ∷ 107 ∷ 115 ∷ 32 ∷ 48 ∷ 10 ∷ []
unfolding opens
text_bytes = refl

-- ---- numbers

zero_digit : decimal_of 0 ≡ ascii "0"
unfolding opens
zero_digit = refl

nine : decimal_of 9 ≡ ascii "9"
unfolding opens
nine = refl

ten : decimal_of 10 ≡ ascii "10"
unfolding opens
ten = refl

hundred_one : decimal_of 101 ≡ ascii "101"
unfolding opens
hundred_one = refl

greatest_32 : decimal_of 4_294_967_295 ≡ ascii "4294967295"
unfolding opens
greatest_32 = refl

greatest_64 : decimal_of 18_446_744_073_709_551_615 ≡ ascii "18446744073709551615"
unfolding opens
greatest_64 = refl

-- ---- answers

-- case A in full
pub case_a_lem : lines_of 1 (Says.Knapsack 9 7) (1 ∷ 1 ∷ 0 ∷ []) ≡ ascii "kind 1\nvalue 9\nweight 7\npicks 1 1 0\n"
unfolding opens
case_a_lem = refl

-- with n = 0 a `picks` line is that word alone
no_labels : lines_of 3 (Says.Knapsack 0 0) [] ≡ ascii "kind 3\nvalue 0\nweight 0\npicks\n"
unfolding opens
no_labels = refl

case_f : lines_of 4 (Says.Sums true 4) [] ≡ ascii "kind 4\nyes 1\ntotals 4\n"
unfolding opens
case_f = refl

case_f_no : lines_of 4 (Says.Sums false 3) [] ≡ ascii "kind 4\nyes 0\ntotals 3\n"
unfolding opens
case_f_no = refl

case_g : lines_of 5 (Says.Blocks 2) (0 ∷ 2 ∷ 0 ∷ []) ≡ ascii "kind 5\nblocks 2\npicks 0 2 0\n"
unfolding opens
case_g = refl

-- the greatest ways that are no refusal
most_ways : lines_of 6 (Says.Ways 18_446_744_073_709_551_614) [] ≡ ascii "kind 6\nways 18446744073709551614\n"
unfolding opens
most_ways = refl

case_i : lines_of 7 (Says.Shares 1) (4 ∷ 3 ∷ 3 ∷ []) ≡ ascii "kind 7\nspare 1\npicks 4 3 3\n"
unfolding opens
case_i = refl

-- F as kind 8
behind_f : lines_of 8 (Says.Weight 8) (1 ∷ 1 ∷ 0 ∷ []) ≡ ascii "kind 8\nweight 8\npicks 1 1 0\n"
unfolding opens
behind_f = refl

-- a refusal prints its number alone, whatever the kind and the picks
pub refusal : (kind : ℕ) (picks : List ℕ) → lines_of kind (Says.Refused 4) picks ≡ ascii "refused 4\n"
unfolding opens
refusal kind picks = refl

-- whatever names the number, and whichever number it is
named_refusal : {R : Type 0} (number : R → ℕ) (why : R) (kind : ℕ) (picks : List ℕ)
    → lines_of kind (said_by number (Err why)) picks ≡ line_of (ascii "refused") (number why)
unfolding opens
named_refusal number why kind picks = refl
