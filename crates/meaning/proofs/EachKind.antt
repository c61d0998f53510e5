-- What is shown kind by kind. Each match over the kinds that a proof of meaning needs stands here, or in Cases for the kind's trial, so that a new
-- kind adds its lines to these two files; and so does each match over the cases of an answer but for `unsay` and `unsaid` (Unique).
-- Assumes nothing.
use mathlib.Core.Path.{◌∙◌, ◌≡◌, ap, refl, sym}
use mathlib.Core.Option.{some-injective, some}
use Prim.Native.Nat.{◌+◌, ◌<◌, ◌≤◌, suc, zero, ℕ}
use native.Mathlib.Nat.{add-mul, not-suc-le-zero, one-mul}
use native.Mathlib.Omega.{arith}
use mathlib.Core.Bool.{Bool, ◌&&◌, false, true}
use mathlib.Core.List.{List, [], ◌∷◌}
use lib.Dec.{T, eqb, ltb}
use lib.ListN.{get_elem?, length}
use mir.Facts.{and_yes, eqb_yes}
use borrow.Author.Tests.{ltb-false}
use Rattle.meaning.specs.Says.{Answer}
use Rattle.meaning.specs.Says as Says
use Rattle.meaning.specs.declared.Way.{Way}
use Rattle.meaning.specs.declared.Way.TheVariants.{Light, Full}
use Rattle.meaning.specs.Lists.{at, if, sum, total}
use Rattle.meaning.specs.Slices.{Holds}
use Rattle.meaning.specs.Cells.{LeastShown}
use Rattle.meaning.specs.Job.{Job, Kind, Knapsack, all_kinds, block_ways, fewest_blocks, free}
use Rattle.meaning.specs.Job.{kind_of, labels, labels_behind, limited, once, packing, sharing, stated_share, subset_sums}
use Rattle.meaning.specs.Cuts.{cut_sum, remain, stated_cells}
use Rattle.meaning.specs.Lent.{Lent, Room, cell_count, once_room, room_by, room_of}
use Rattle.meaning.specs.Knapsacks.{FullTable, ValueTable}
use Rattle.meaning.specs.Sums.{Weighs}
use Rattle.meaning.specs.Behind.{FirstRow}
use Rattle.meaning.specs.Blocks.{FewestRow, Makes, WaysFor, WaysRow, too_many}
use Rattle.meaning.specs.Shares.{spare_of}
use Rattle.meaning.specs.Answers.{AnswerNumbers, Which, is_blocks, is_knapsack, is_refusal, is_shares, is_sums, is_ways, is_weight}
use Rattle.meaning.specs.Answers.{answer_numbers}
use Rattle.meaning.specs.Certificates.{certificate_cells}
use Rattle.meaning.specs.Solved.{Answered, Built, Gives, OnceTable, TableBy, Weighed, a_sum, no_such_sum, ways_answer}
use Rattle.meaning.proofs.OneOfEach.{same_list, rows_unique, row_unique, stated_cells_unique}
use Rattle.meaning.proofs.OneOfEach.{bits_table_unique, label_words_unique, least_shown_unique, ways_shown_unique}
use Rattle.meaning.proofs.OneOfEach.{packed_unique, best_unique, stated_unique}
use Rattle.meaning.proofs.OneOfEach.{summed_unique, sum_or_none_unique, laid_unique, ways_given_unique, behind_unique}

-- ---- the number

-- the number of each kind
unfoldable pub number_of : Kind → ℕ
number_of (packing once) = 1
number_of (packing limited) = 2
number_of (packing free) = 3
number_of subset_sums = 4
number_of fewest_blocks = 5
number_of block_ways = 6
number_of sharing = 7
number_of labels_behind = 8
number_of stated_share = 9

-- the kinds of a list have the numbers m, m + 1, ..
unfoldable in_order : ℕ → List Kind → Bool
in_order m [] = true
in_order m (k ∷ ks) = eqb (number_of k) m && in_order (suc m) ks

in_order_at : (m : ℕ) (ks : List Kind) (i : ℕ) (k : Kind) → T (in_order m ks) → get_elem? ks i ≡ some k → i + m ≡ number_of k
unfolding in_order
in_order_at m [] i k t e = let z : ◌≡◌ {A = ℕ} 0 1 = cc in absurd (omega arith)
in_order_at m (x ∷ ks) zero k t e =
    let first : number_of x ≡ m = eqb_yes (and_yes (eqb (number_of x) m) (in_order (suc m) ks) t).0 in
    let same : number_of x ≡ number_of k = ap number_of (some-injective x k e) in
    omega arith
in_order_at m (x ∷ ks) (suc i) k t e =
    let rest : i + suc m ≡ number_of k = in_order_at (suc m) ks i k (and_yes (eqb (number_of x) m) (in_order (suc m) ks) t).1 e in
    omega arith

-- a kind has one number
pub kind_number : (m : ℕ) (k : Kind) → kind_of m ≡ some k → m ≡ number_of k
unfolding kind_of all_kinds in_order number_of
kind_number zero k e = let z : ◌≡◌ {A = ℕ} 0 1 = cc in absurd (omega arith)
kind_number (suc m) k e = let at-m : m + 1 ≡ number_of k = in_order_at 1 all_kinds m k tt e in omega (arith, at-m)

-- ---- a table leaves one content of the needed cells and words

-- the needed places and no more
pub record Sized (room : Room) (s : Lent) : Type 0 where
  pub cells : length s.cells ≡ room.cells
  pub words : length s.words ≡ room.words

-- a table in a room that leaves one content of them
unfoldable pub OneTable : Room → (Lent → Type 0) → Type 0
OneTable room table = (s t : Lent) → table s → table t → Sized room s → Sized room t → (s.cells ≡ t.cells) × (s.words ≡ t.words)

-- two tables hold the same in each needed place
record SamePlaces (room : Room) (s t : Lent) : Type 0 where
  cells : (m : ℕ) → m < room.cells → at s.cells m ≡ at t.cells m
  words : (m : ℕ) → m < room.words → at s.words m ≡ at t.words m

none_needed : (s t : List ℕ) (m : ℕ) → m < 0 → at s m ≡ at t m
none_needed s t m h = absurd (not-suc-le-zero h)

-- a cell for each total or amount to C that shows the least of some numbers
shown_places : (budget picks : ℕ) {P : ℕ → ℕ → Type 0} (s t : Lent) → ((a : ℕ) → a ≤ budget → LeastShown (P a) (at s.cells a))
    → ((a : ℕ) → a ≤ budget → LeastShown (P a) (at t.cells a)) → SamePlaces (room_of (budget + 1) 0 picks) s t
unfolding room_of
shown_places budget picks s t a b = record {
  cells = λ m h. least_shown_unique (a m (omega arith)) (b m (omega arith));
  words = none_needed s.words t.words;
}

-- a full table
full_places : (k : Knapsack) (j : Job) (picks : ℕ) (s t : Lent) → FullTable k j s.cells → FullTable k j t.cells
    → SamePlaces (room_of (cell_count j) 0 picks) s t
unfolding room_of
full_places k j picks s t a b = record { cells = rows_unique k j s.cells t.cells a b; words = none_needed s.words t.words }

once_places : (way : Way) (j : Job) (s t : Lent) → OnceTable way j s → OnceTable way j t → SamePlaces (once_room way j) s t
unfolding OnceTable ValueTable once_room room_of
once_places Light j s t a b = record {
  cells = row_unique once j s.cells t.cells a.best b.best;
  words = label_words_unique j s.words t.words a b;
}
once_places Full j s t a b = full_places once j (labels j) s t a b

same_places : (way : Way) (k : Kind) (j : Job) (s t : Lent) → TableBy way k j s → TableBy way k j t → SamePlaces (room_by way k j) s t
unfolding TableBy ValueTable FewestRow WaysRow FirstRow room_by room_of
same_places way (packing once) j s t a b = once_places way j s t a b
same_places way (packing limited) j s t a b = full_places limited j (labels j) s t a b
same_places way (packing free) j s t a b = record { cells = row_unique free j s.cells t.cells a b; words = none_needed s.words t.words }
same_places way subset_sums j s t a b = record { cells = none_needed s.cells t.cells; words = bits_table_unique j s.words t.words a b }
same_places way fewest_blocks j s t a b = shown_places j.budget (labels j) s t a b
same_places way block_ways j s t a b = record {
  cells = none_needed s.cells t.cells;
  words = λ m h. ways_shown_unique (a m (omega arith)) (b m (omega arith));
}
same_places way sharing j s t a b = record { cells = none_needed s.cells t.cells; words = none_needed s.words t.words }
same_places way labels_behind j s t a b = shown_places j.budget (labels j) s t a b
same_places way stated_share j s t a b = record {
  cells = stated_cells_unique j s.cells t.cells a b;
  words = none_needed s.words t.words;
}

-- each kind's table leaves one content, whichever way kind 1 goes
pub table_unique : (way : Way) (k : Kind) (j : Job) → OneTable (room_by way k j) (TableBy way k j)
unfolding OneTable
table_unique way k j s t a b u v =
    let same = same_places way k j s t a b in (
      same_list (room_by way k j).cells s.cells t.cells u.cells v.cells same.cells,
      same_list (room_by way k j).words s.words t.words u.words v.words same.words,
    )

-- ---- where a table stands

-- where the table of kind k stands; kind 7 has none
unfoldable pub table_of : Kind → Lent → List ℕ
table_of (packing s) lent = lent.cells
table_of subset_sums lent = lent.words
table_of fewest_blocks lent = lent.cells
table_of block_ways lent = lent.words
table_of sharing lent = []
table_of labels_behind lent = lent.cells
table_of stated_share lent = lent.cells

-- the places that are needed for the table hold it, and there is one at least
pub record TableLeft (k : Kind) (content before after : Lent) : Type 0 where
  pub held : Holds (table_of k content) (table_of k before) (table_of k after)
  pub needed : ¬ (k ≡ sharing) → 1 ≤ length (table_of k content)

once_cells : (way : Way) (j : Job) → 1 ≤ (once_room way j).cells
unfolding once_room room_of cell_count
once_cells Light j = omega arith
once_cells Full j = omega arith

stated_some : (j : Job) → 1 ≤ stated_cells j
unfolding stated_cells
stated_some j = omega (arith, add-mul (remain j) 1 (cut_sum j + 1), one-mul (cut_sum j + 1))

pub table_left : (way : Way) (k : Kind) {j : Job} {before after : Lent} {s : AnswerNumbers}
    (x : Answered (room_by way k j) (TableBy way k j) k j before s after) → TableLeft k x.content before after
unfolding table_of Holds room_by room_of cell_count
table_left way (packing once) {j} x = record { held = x.cells_hold; needed = λ has. omega (arith, x.cells_needed, once_cells way j) }
table_left way (packing limited) x = record { held = x.cells_hold; needed = λ has. omega (arith, x.cells_needed) }
table_left way (packing free) x = record { held = x.cells_hold; needed = λ has. omega (arith, x.cells_needed) }
table_left way subset_sums x = record { held = x.words_hold; needed = λ has. omega (arith, x.words_needed) }
table_left way fewest_blocks x = record { held = x.cells_hold; needed = λ has. omega (arith, x.cells_needed) }
table_left way block_ways x = record { held = x.words_hold; needed = λ has. omega (arith, x.words_needed) }
table_left way sharing x = record { held = refl; needed = λ has. absurd (has refl) }
table_left way labels_behind x = record { held = x.cells_hold; needed = λ has. omega (arith, x.cells_needed) }
table_left way stated_share {j} x = record { held = x.cells_hold; needed = λ has. omega (arith, x.cells_needed, stated_some j) }

-- ---- the two ways

-- a job whose number isn't 1 is of another kind than 1
pub not_once : (j : Job) (k : Kind) → kind_of j.kind_number ≡ some k → ¬ (j.kind_number ≡ 1) → ¬ (k ≡ packing once)
unfolding number_of
not_once j k of_kind not-1 is = not-1 (kind_number j.kind_number k of_kind ∙ ap number_of is)

-- a kind that isn't kind 1 needs the same room and leaves the same table by either way
pub record OneWay (way other : Way) (k : Kind) (j : Job) : Type 1 where
  pub room : room_by way k j ≡ room_by other k j
  pub table : TableBy way k j ≡ TableBy other k j

pub one_way : (way other : Way) (k : Kind) (j : Job) → ¬ (k ≡ packing once) → OneWay way other k j
unfolding room_by TableBy
one_way way other (packing once) j not-1 = absurd (not-1 refl)
one_way way other (packing limited) j not-1 = record { room = refl; table = refl }
one_way way other (packing free) j not-1 = record { room = refl; table = refl }
one_way way other subset_sums j not-1 = record { room = refl; table = refl }
one_way way other fewest_blocks j not-1 = record { room = refl; table = refl }
one_way way other block_ways j not-1 = record { room = refl; table = refl }
one_way way other sharing j not-1 = record { room = refl; table = refl }
one_way way other labels_behind j not-1 = record { room = refl; table = refl }
one_way way other stated_share j not-1 = record { room = refl; table = refl }

-- by such a way the table of a knapsack is what its certificate needs, and holds the values
pub record ClaimTable (way : Way) (k : Knapsack) (j : Job) : Type 1 where
  pub room : room_by way (packing k) j ≡ room_of (certificate_cells k j) 0 (labels j)
  pub table : TableBy way (packing k) j ≡ (λ content. ValueTable k j content.cells)

-- by the full way it is so for each of the three
pub full_claims : (k : Knapsack) (j : Job) → ClaimTable Full k j
unfolding room_by once_room TableBy OnceTable certificate_cells
full_claims once j = record { room = refl; table = refl }
full_claims limited j = record { room = refl; table = refl }
full_claims free j = record { room = refl; table = refl }

-- ---- what a kind says and writes

-- each kind says one thing and writes one list
pub gives_unique : (k : Kind) (j : Job) (s s' : AnswerNumbers) (p p' : List ℕ) → Gives k j s p → Gives k j s' p' → (p ≡ p') × (s ≡ s')
unfolding Gives Built Weighed
gives_unique (packing k) j s s' p p' a b = packed_unique (best_unique k j (labels j) j.budget) a b
gives_unique subset_sums j s s' p p' a b = summed_unique a b
gives_unique fewest_blocks j s s' p p' a b = sum_or_none_unique (laid_unique j j.budget) a b
gives_unique block_ways j s s' p p' a b = ways_given_unique a b
gives_unique sharing j s s' p p' a b = (a.given ∙ sym b.given, a.numbers ∙ sym b.numbers)
gives_unique labels_behind j s s' p p' a b = sum_or_none_unique (behind_unique j (labels j) j.budget) a b
gives_unique stated_share j s s' p p' a b = packed_unique (stated_unique j) a b

-- ---- a refusal, of a job that none of 2 to 6 and 9 meets: 'exactly when'

-- 7 where no list of blocks, or of labels, sums to C, 8 where the ways are too many to count, and no other
unfoldable pub Late : Kind → Job → ℕ → Type 0
Late (packing s) j r = ⊥
Late subset_sums j r = ⊥
Late fewest_blocks j r = (r ≡ 7) × ((q : List ℕ) → ¬ Makes j (labels j) j.budget q)
Late block_ways j r = (r ≡ 8) × ((w : ℕ) × WaysFor j (labels j) j.budget w × (too_many ≤ w))
Late sharing j r = ⊥
Late labels_behind j r = (r ≡ 7) × ((q : List ℕ) → ¬ Weighs j (labels j) j.budget q)
Late stated_share j r = ⊥

-- 1 for a refusal, 0 for any other case
unfoldable pub refusals : Which → ℕ
refusals is_refusal = 1
refusals is_knapsack = 0
refusals is_sums = 0
refusals is_blocks = 0
refusals is_ways = 0
refusals is_shares = 0
refusals is_weight = 0

-- no other case says what a refusal says
pub not_said : (r : ℕ) (a : Answer) → refusals (answer_numbers a).case ≡ 0 → ¬ (answer_numbers (Says.Refused r) ≡ answer_numbers a)
unfolding answer_numbers refusals
not_said r a other e = let z : 1 ≡ refusals (answer_numbers a).case = ap (λ (s : AnswerNumbers). refusals s.case) e in omega arith

late_ways : (j : Job) (w r : ℕ) → WaysFor j (labels j) j.budget w → (b : Bool) → ltb w too_many ≡ b
    → answer_numbers (Says.Refused r) ≡ answer_numbers (if b (Says.Ways w) (Says.Refused 8)) → Late block_ways j r
unfolding if Late answer_numbers refusals
late_ways j w r ways true h e = absurd (not_said r (Says.Ways w) refl e)
late_ways j w r ways false h e = (ap (λ (s : AnswerNumbers). s.refusal) e, (w, ways, omega (arith, ltb-false, h)))

pub late : (k : Kind) (j : Job) (r : ℕ) (p : List ℕ) → Gives k j (answer_numbers (Says.Refused r)) p → Late k j r
unfolding Gives Built Weighed ways_answer Late answer_numbers refusals
late (packing s) j r p g = not_said r (Says.Knapsack (total j.values p) (total j.weights p)) refl g.numbers
late subset_sums j r p g = not_said r (Says.Sums g.yes g.totals) refl g.numbers
late fewest_blocks j r p (a_sum makes laid e) = absurd (not_said r (Says.Blocks (sum p)) refl e)
late fewest_blocks j r p (no_such_sum none e written) = (ap (λ (s : AnswerNumbers). s.refusal) e, none)
late block_ways j r p g = late_ways j g.ways r g.how_many (ltb g.ways too_many) refl g.numbers
late sharing j r p g = not_said r (Says.Shares (spare_of j)) refl g.numbers
late labels_behind j r p (a_sum weighs behind e) = absurd (not_said r (Says.Weight (total j.weights p)) refl e)
late labels_behind j r p (no_such_sum none e written) = (ap (λ (s : AnswerNumbers). s.refusal) e, none)
late stated_share j r p g = not_said r (Says.Knapsack (total j.values p) (total j.weights p)) refl g.numbers

-- a refusal is told by its number
pub numbered : (a : Answer) → ¬ ((answer_numbers a).refusal ≡ 0) → (r : ℕ) × (a ≡ Says.Refused r)
unfolding answer_numbers
numbered (Says.Refused r) h = (r, refl)
numbered (Says.Knapsack v w) h = absurd (h refl)
numbered (Says.Sums y n) h = absurd (h refl)
numbered (Says.Blocks b) h = absurd (h refl)
numbered (Says.Ways w) h = absurd (h refl)
numbered (Says.Shares x) h = absurd (h refl)
numbered (Says.Weight w) h = absurd (h refl)
