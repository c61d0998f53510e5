-- How long the lines are, and how much room serves for all of them.
-- Assumes nothing.
use Prim.Native.Nat.{ℕ, suc, ◌+◌, ◌*◌, ◌≤◌, ◌<◌}
use mathlib.Core.Path.{◌≡◌, refl, ap, ◌∙◌}
use mathlib.Core.Bool.{Bool, true, false}
use mathlib.Core.List.{List, [], ◌∷◌, ◌++◌, append_assoc, append-nil}
use native.Mathlib.Omega.{arith}
use native.Mathlib.Numerals.{add-one}
use lib.ListN.{length, take, drop, length-append}
use lib.Seq.{take-suc, take_all, split_at}
use mir.Val.{bool_byte}
use Rattle.meaning.specs.Says.{Answer}
use Rattle.meaning.specs.Says as Says
use Rattle.meaning.specs.Lists.{at, if}
use Rattle.print.specs.Lines.{ascii, decimal_of, after_blank, after_blanks, line, line_of, picks_line, head_lines}
use Rattle.print.specs.Lines.{knapsack_lines, sums_lines, number_and_picks, lines_of}
use Rattle.print.proofs.Decimal.{decimal_most}

-- ---- a line's parts

pub number_long : (x : ℕ) → length (after_blank x) ≡ 1 + length (decimal_of x)
unfolding after_blank ascii
number_long x = omega arith

pub line_parts : (name : List ℕ) (x : ℕ) → line_of name x ≡ name ++ (after_blank x ++ ascii "\n")
unfolding line_of line after_blanks
line_parts name x = rw (append-nil (after_blank x))

pub line_long : (name : List ℕ) (x : ℕ) → length (line_of name x) ≡ length name + (length (after_blank x) + 1)
unfolding ascii
line_long name x =
    omega (arith, simp length-append at (ap length (line_parts name x)))

pub head_long : (kind : ℕ) (name : List ℕ) (x : ℕ)
    → length (head_lines kind name x) ≡ length (line_of (ascii "kind") kind) + length (line_of name x)
unfolding head_lines
head_long kind name x = length-append (line_of (ascii "kind") kind) (line_of name x)

pub picks_long : (ps : List ℕ) → length (picks_line ps) ≡ 5 + (length (after_blanks ps) + 1)
unfolding picks_line line ascii
picks_long ps = simp length-append (omega arith)

-- ---- a blank and a number for each pick

blanks_append : (ms ns : List ℕ) → after_blanks (ms ++ ns) ≡ after_blanks ms ++ after_blanks ns
unfolding after_blanks
blanks_append [] ns = refl
blanks_append (m ∷ ms) ns = ap (λ (l : List ℕ). after_blank m ++ l) (blanks_append ms ns) ∙ rw append_assoc

blanks_one : (x : ℕ) → after_blanks (x ∷ []) ≡ after_blank x
unfolding after_blanks
blanks_one x = append-nil (after_blank x)

-- one pick more
pub blanks_next : (ps : List ℕ) (i : ℕ) → i < length ps → after_blanks (take (i + 1) ps) ≡ after_blanks (take i ps) ++ after_blank (at ps i)
blanks_next ps i h = rw (add-one, take-suc ps i 0 h, blanks_append (take i ps) (at ps i ∷ []), blanks_one (at ps i))

-- the picks passed and the next one take no more room than all
pub blanks_room : (ps : List ℕ) (i : ℕ) → i < length ps
    → length (after_blanks (take i ps)) + length (after_blank (at ps i)) ≤ length (after_blanks ps)
unfolding after_blanks
blanks_room ps i h =
    let parts = blanks_append (take i ps) (at ps i ∷ drop (suc i) ps) in
    let all = ap after_blanks (split_at ps i 0 h) ∙ parts in
    omega (arith, simp length-append at (ap length all))

-- past the last pick all have been passed
pub blanks_all : (ps : List ℕ) (i : ℕ) → length ps ≤ i → length (after_blanks (take i ps)) ≡ length (after_blanks ps)
blanks_all ps i past = rw (take_all i ps past)

-- ---- the lines of each answer

pub knapsack_long : (kind value weight : ℕ) (ps : List ℕ) → length (knapsack_lines kind value weight ps)
    ≡ length (head_lines kind (ascii "value") value) + (length (line_of (ascii "weight") weight) + length (picks_line ps))
knapsack_long kind value weight ps = simp length-append refl

-- yes and no as they are printed, and as the code has them
yes_byte : (b : Bool) → if b 1 0 ≡ bool_byte b
unfolding if
yes_byte true = refl
yes_byte false = refl

pub sums_parts : (kind : ℕ) (reached : Bool) (totals : ℕ)
    → sums_lines kind reached totals ≡ head_lines kind (ascii "yes") (bool_byte reached) ++ line_of (ascii "totals") totals
sums_parts kind reached totals = rw (yes_byte reached)

pub sums_long : (kind : ℕ) (reached : Bool) (totals : ℕ)
    → length (sums_lines kind reached totals) ≡ length (head_lines kind (ascii "yes") (bool_byte reached)) + length (line_of (ascii "totals") totals)
sums_long kind reached totals = ap length (sums_parts kind reached totals) ∙ length-append (head_lines kind (ascii "yes") (bool_byte reached)) _

pub number_and_picks_long : (kind : ℕ) (name : List ℕ) (x : ℕ) (ps : List ℕ)
    → length (number_and_picks kind name x ps) ≡ length (head_lines kind name x) + length (picks_line ps)
number_and_picks_long kind name x ps = length-append (head_lines kind name x) (picks_line ps)

-- ---- room for all lines

-- a number has at most 20 digits
line_room : (name : List ℕ) (x : ℕ) → length (line_of name x) ≤ length name + 22
line_room name x = omega (arith, line_long name x, number_long x, decimal_most x)

head_room : (kind : ℕ) (name : List ℕ) (x : ℕ) → length (head_lines kind name x) ≤ length name + 48
unfolding ascii
head_room kind name x = omega (arith, head_long kind name x, line_room (ascii "kind") kind, line_room name x)

blanks_short : (ps : List ℕ) → length (after_blanks ps) ≤ 21 * length ps
unfolding after_blanks
blanks_short [] = omega arith
blanks_short (p ∷ ps) = omega (arith, length-append (after_blank p) (after_blanks ps), number_long p, decimal_most p, blanks_short ps)

picks_room : (ps : List ℕ) → length (picks_line ps) ≤ 6 + 21 * length ps
picks_room ps = omega (arith, picks_long ps, blanks_short ps)

-- 128 bytes, and 21 for each pick
pub lines_room : (kind : ℕ) (a : Answer) (ps : List ℕ) → length (lines_of kind a ps) ≤ 128 + 21 * length ps
unfolding lines_of ascii
lines_room kind (Says.Refused r) ps = omega (arith, line_room (ascii "refused") r)
lines_room kind (Says.Knapsack value weight) ps =
    omega (arith, knapsack_long kind value weight ps, head_room kind (ascii "value") value, line_room (ascii "weight") weight, picks_room ps)
lines_room kind (Says.Sums reached totals) ps =
    omega (arith, sums_long kind reached totals, head_room kind (ascii "yes") (bool_byte reached), line_room (ascii "totals") totals)
lines_room kind (Says.Blocks blocks) ps =
    omega (arith, number_and_picks_long kind (ascii "blocks") blocks ps, head_room kind (ascii "blocks") blocks, picks_room ps)
lines_room kind (Says.Ways ways) ps = omega (arith, head_room kind (ascii "ways") ways)
lines_room kind (Says.Shares spare) ps =
    omega (arith, number_and_picks_long kind (ascii "spare") spare ps, head_room kind (ascii "spare") spare, picks_room ps)
lines_room kind (Says.Weight weight) ps =
    omega (arith, number_and_picks_long kind (ascii "weight") weight ps, head_room kind (ascii "weight") weight, picks_room ps)
