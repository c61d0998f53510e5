-- The lines that the program prints, as document 01 has them ('The program'), byte by byte.
-- Assumes nothing.
use Rattle.std.specs.Prelude.{ℕ, zero, suc, ◌+◌, ◌/◌, ◌%◌, Bool, List, [], ◌∷◌, ◌++◌, ltb}
use Prim.Native.Char.{code}
use Prim.Native.String.{String, [] as ended, ◌∷◌ as ◌then◌}
use Rattle.meaning.specs.Says.{Answer}
use Rattle.meaning.specs.Says as Says
use Rattle.meaning.specs.Lists.{if}

-- a text's bytes: the number of each of its characters
unfoldable pub ascii : String → List ℕ
ascii ended = []
ascii (c then rest) = code c ∷ ascii rest

-- a number in decimal, highest digit first and no zero in front, if it has at most so many digits
unfoldable pub decimal_within : ℕ → ℕ → List ℕ
decimal_within zero n = []
decimal_within (suc most) n = if (ltb n 10) ((48 + n) ∷ []) (decimal_within most (n / 10) ++ ((48 + n % 10) ∷ []))

-- a number of 64 bits in decimal: it has at most 20 digits
unfoldable pub decimal_of : ℕ → List ℕ
decimal_of n = decimal_within 20 n

-- a blank and a number
unfoldable pub after_blank : ℕ → List ℕ
after_blank x = ascii " " ++ decimal_of x

-- a blank and a number for each of a list
unfoldable pub after_blanks : List ℕ → List ℕ
after_blanks [] = []
after_blanks (x ∷ xs) = after_blank x ++ after_blanks xs

-- a line: a name, a blank and a number for each of a list, and a line end
unfoldable pub line : List ℕ → List ℕ → List ℕ
line name xs = name ++ (after_blanks xs ++ ascii "\n")

-- a line of a name and one number
unfoldable pub line_of : List ℕ → ℕ → List ℕ
line_of name x = line name (x ∷ [])

-- the line of picks: that word, and each count
unfoldable pub picks_line : List ℕ → List ℕ
picks_line picks = line (ascii "picks") picks

-- the two lines that every answer but a refusal starts with: the kind, and the kind's first number under its name
unfoldable pub head_lines : ℕ → List ℕ → ℕ → List ℕ
head_lines kind name x = line_of (ascii "kind") kind ++ line_of name x

-- ---- the lines of each answer

abbrev pub refused_lines : ℕ → List ℕ
refused_lines r = line_of (ascii "refused") r

abbrev pub knapsack_lines : ℕ → ℕ → ℕ → List ℕ → List ℕ
knapsack_lines kind value weight picks = head_lines kind (ascii "value") value ++ (line_of (ascii "weight") weight ++ picks_line picks)

abbrev pub sums_lines : ℕ → Bool → ℕ → List ℕ
sums_lines kind reached totals = head_lines kind (ascii "yes") (if reached 1 0) ++ line_of (ascii "totals") totals

abbrev pub ways_lines : ℕ → ℕ → List ℕ
ways_lines kind ways = head_lines kind (ascii "ways") ways

-- of blocks, of shares and of a total: one number under its name, and the picks
abbrev pub number_and_picks : ℕ → List ℕ → ℕ → List ℕ → List ℕ
number_and_picks kind name x picks = head_lines kind name x ++ picks_line picks

-- all lines of an answer to a job of this kind
unfoldable pub lines_of : ℕ → Answer → List ℕ → List ℕ
lines_of kind (Says.Refused r) picks = refused_lines r
lines_of kind (Says.Knapsack value weight) picks = knapsack_lines kind value weight picks
lines_of kind (Says.Sums reached totals) picks = sums_lines kind reached totals
lines_of kind (Says.Blocks blocks) picks = number_and_picks kind (ascii "blocks") blocks picks
lines_of kind (Says.Ways ways) picks = ways_lines kind ways
lines_of kind (Says.Shares spare) picks = number_and_picks kind (ascii "spare") spare picks
lines_of kind (Says.Weight weight) picks = number_and_picks kind (ascii "weight") weight picks
