-- Texts that are put one after the other: number by number, line by line.
-- Assumes nothing.
use Prim.Native.Nat.{ℕ, ◌+◌, ◌≤◌, ◌<◌}
use mathlib.Core.Path.{◌≡◌, sym, ap, subst, ◌∙◌}
use mathlib.Core.Bool.{Bool}
use mathlib.Core.List.{List, [], ◌++◌}
use native.Mathlib.Omega.{arith}
use lib.ListN.{length, take, drop, length-append}
use lib.Seq.{take_all, take_at}
use mir.Val.{bool_byte}
use Rattle.meaning.specs.Says.{Answer}
use Rattle.meaning.specs.Lists.{at}
use Rattle.meaning.specs.Slices.{Holds}
use Rattle.numbers.specs.Placed.{WrittenAt}
use Rattle.numbers.proofs.Placed.{nothing, joined, from_start}
use Rattle.print.specs.Lines.{ascii, decimal_of, after_blank, after_blanks, line, line_of, picks_line, head_lines}
use Rattle.print.specs.Lines.{knapsack_lines, sums_lines, number_and_picks, lines_of}
use Rattle.print.specs.Puts.{PutFirst}
use Rattle.print.proofs.Lengths.{number_long, line_parts, line_long, picks_long, blanks_next, blanks_room}
use Rattle.print.proofs.Lengths.{knapsack_long, sums_parts, sums_long, number_and_picks_long}

-- ---- text after text

-- nothing put
pub nothing_put : (p : ℕ) (l : List ℕ) → WrittenAt p [] l l p
nothing_put p l = record {
  written = nothing p l;
  ends = omega arith;
}

-- a text after a text is both as one
pub both : {p q r : ℕ} {a b before mid after : List ℕ} → p + length a ≤ length before → WrittenAt p a before mid q → WrittenAt q b mid after r
    → WrittenAt p (a ++ b) before after r
both {p} {q} {r} {a} {b} {before} {mid} {after} fits first second = record {
  written = joined p a before mid fits first.written b after (rw first.ends at second.written);
  ends = omega (arith, length-append a b, first.ends, second.ends);
}

-- a blank and the digits
pub number_put : {p q r : ℕ} {digits before mid after : List ℕ} (x : ℕ) → p + length (after_blank x) ≤ length before → digits ≡ decimal_of x
    → WrittenAt p (ascii " ") before mid q → WrittenAt q digits mid after r → WrittenAt p (after_blank x) before after r
unfolding after_blank ascii
number_put x fits told first second = rw (← told) (both (omega (arith, number_long x)) first second)

-- a name, a number and a line end
pub line_put : {p q s r : ℕ} {before mid late after : List ℕ} (name : List ℕ) (x : ℕ) → p + length (line_of name x) ≤ length before
    → length mid ≡ length before → WrittenAt p name before mid q → WrittenAt q (after_blank x) mid late s
    → WrittenAt s (ascii "\n") late after r → WrittenAt p (line_of name x) before after r
line_put name x fits same first second third =
    rw (line_parts name x) (both (omega (arith, line_long name x)) first (both (omega (arith, line_long name x, first.ends)) second third))

-- with the first i picks put, and pick i after them
pub next_pick : {p q r : ℕ} {before mid after : List ℕ} (ps : List ℕ) (i : ℕ) → i < length ps → p + length (after_blanks ps) ≤ length before
    → WrittenAt p (after_blanks (take i ps)) before mid q → WrittenAt q (after_blank (at ps i)) mid after r
    → WrittenAt p (after_blanks (take (i + 1) ps)) before after r
next_pick ps i h fits first second = rw (blanks_next ps i h) (both (omega (arith, blanks_room ps i h)) first second)

-- the word, all picks and a line end
pub picks_put : {p q s r : ℕ} {before mid late after : List ℕ} (ps : List ℕ) (i : ℕ) → length ps ≤ i → p + length (picks_line ps) ≤ length before
    → length mid ≡ length before → WrittenAt p (ascii "picks") before mid q → WrittenAt q (after_blanks (take i ps)) mid late s
    → WrittenAt s (ascii "\n") late after r → WrittenAt p (picks_line ps) before after r
unfolding picks_line line ascii
picks_put ps i past fits same first second third =
    let all = rw (take_all i ps past) at second in
    both (omega (arith, picks_long ps)) first (both (omega (arith, picks_long ps, first.ends)) all third)

-- ---- all lines, from place 0 on

pub first_put : {r : ℕ} {lines before after : List ℕ} → WrittenAt 0 lines before after r → PutFirst lines before after r
first_put {r} {lines} {before} {after} put = record {
  holds = from_start lines before after put.written;
  ends = omega (arith, put.ends);
}

pub knapsack_put : {q s r : ℕ} {before mid late after : List ℕ} (kind value weight : ℕ) (ps : List ℕ)
    → length (knapsack_lines kind value weight ps) ≤ length before → length mid ≡ length before
    → WrittenAt 0 (head_lines kind (ascii "value") value) before mid q → WrittenAt q (line_of (ascii "weight") weight) mid late s
    → WrittenAt s (picks_line ps) late after r → PutFirst (knapsack_lines kind value weight ps) before after r
knapsack_put kind value weight ps fits same first second third =
    let long = knapsack_long kind value weight ps in
    first_put (both (omega (arith, long)) first (both (omega (arith, long, first.ends)) second third))

pub sums_put : {q r : ℕ} {before mid after : List ℕ} (kind : ℕ) (reached : Bool) (totals : ℕ)
    → length (sums_lines kind reached totals) ≤ length before
    → WrittenAt 0 (head_lines kind (ascii "yes") (bool_byte reached)) before mid q → WrittenAt q (line_of (ascii "totals") totals) mid after r
    → PutFirst (sums_lines kind reached totals) before after r
sums_put kind reached totals fits first second =
    first_put (rw (sums_parts kind reached totals) (both (omega (arith, sums_long kind reached totals)) first second))

pub number_and_picks_put : {q r : ℕ} {before mid after : List ℕ} (kind : ℕ) (name : List ℕ) (x : ℕ) (ps : List ℕ)
    → length (number_and_picks kind name x ps) ≤ length before
    → WrittenAt 0 (head_lines kind name x) before mid q → WrittenAt q (picks_line ps) mid after r
    → PutFirst (number_and_picks kind name x ps) before after r
number_and_picks_put kind name x ps fits first second = first_put (both (omega (arith, number_and_picks_long kind name x ps)) first second)

-- an answer whose case is known: its room is room for the lines of that case, and those are its lines
module _ (kind : ℕ) (picks : List ℕ) {a b : Answer} (is : a ≡ b) where
  pub case_room : {n : ℕ} → length (lines_of kind a picks) ≤ n → length (lines_of kind b picks) ≤ n
  case_room {n} fits = subst (λ (x : Answer). length (lines_of kind x picks) ≤ n) is fits

  pub case_put : {r : ℕ} {before after : List ℕ} → PutFirst (lines_of kind b picks) before after r → PutFirst (lines_of kind a picks) before after r
  case_put {r} {before} {after} put = subst (λ (x : Answer). PutFirst (lines_of kind x picks) before after r) (sym is) put

-- the first places, which are written out, are the lines and no more
pub written_out : {n : ℕ} {lines before after : List ℕ} → PutFirst lines before after n → take n after ≡ lines
unfolding Holds
written_out {n} {lines} {before} {after} put =
    ap (take n) put.holds ∙ take_at lines (drop (length lines) before) n (sym put.ends)

-- what is left has no second choice
pub text_unique : {m n : ℕ} {lines before one other : List ℕ} → PutFirst lines before one m → PutFirst lines before other n → (one ≡ other) × (m ≡ n)
unfolding Holds
text_unique p q = (p.holds ∙ sym q.holds, p.ends ∙ sym q.ends)
