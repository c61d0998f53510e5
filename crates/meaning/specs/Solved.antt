-- What the planner answers and what it leaves in the lent slices, for every job: one answer, one content of each slice.
-- Assumes nothing.
use Rattle.std.specs.Prelude.{◌≡◌, ℕ, zero, suc, Bool, List, [], ltb, length}
use Rattle.std.proofs.Math.Option.{Option, none, some}
use Rattle.meaning.specs.Says.{Answer}
use Rattle.meaning.specs.Says as Says
use Rattle.meaning.specs.declared.Way.{Way}
use Rattle.meaning.specs.declared.Way.TheVariants.{Light, Full}
use Rattle.meaning.specs.Lists.{sum, total, if}
use Rattle.meaning.specs.Slices.{Holds}
use Rattle.meaning.specs.Job.{Job, labels, once, limited, free, Kind, packing, subset_sums, fewest_blocks, block_ways, sharing}
use Rattle.meaning.specs.Job.{labels_behind, stated_share, kind_of}
use Rattle.meaning.specs.Lent.{Lent, Room, room_by}
use Rattle.meaning.specs.Refusals.{kind_refusal}
use Rattle.meaning.specs.Bytes.{JobRead, unreadable, readable, read_job}
use Rattle.meaning.specs.Knapsacks.{BestPicks, ValueTable}
use Rattle.meaning.specs.Sums.{Weighs, YesOrNo, TotalCount, BitTable}
use Rattle.meaning.specs.Light.{LightTable}
use Rattle.meaning.specs.Behind.{Behind, FirstRow}
use Rattle.meaning.specs.Stated.{StatedPicks, StatedTable}
use Rattle.meaning.specs.Blocks.{Makes, Laid, FewestRow, WaysFor, WaysRow, too_many}
use Rattle.meaning.specs.Shares.{spare_of, shares_of}
use Rattle.meaning.specs.Answers.{AnswerNumbers, answer_numbers}

-- ---- what is said, as s, of a job j that none of 1 to 6 and 9 refuses, with the picks p that are written ([] where none are)

-- kinds 1 to 3 and 9: the picks that are the choice, with their value and weight
pub record Packed (Choice : List ℕ → Type 0) (j : Job) (s : AnswerNumbers) (p : List ℕ) : Type 0 where
  pub picked : Choice p
  pub numbers : s ≡ answer_numbers (Says.Knapsack (total j.values p) (total j.weights p))

-- kind 4: yes or no, and the number of totals; no picks
pub record Summed (j : Job) (s : AnswerNumbers) (p : List ℕ) : Type 0 where
  pub yes : Bool
  pub totals : ℕ
  pub tells : YesOrNo j (if yes 1 0)
  pub how_many : TotalCount j totals
  pub numbers : s ≡ answer_numbers (Says.Sums yes totals)
  pub none_written : p ≡ []

-- where a list is asked for that sums to exactly C: the chosen one of them, or refusal 7 where there is no such sum
pub data SumOrNone (Exact Choice : List ℕ → Type 0) (answer : List ℕ → Answer) (s : AnswerNumbers) (p : List ℕ) : Type 0 where
  a_sum : Exact p → Choice p → s ≡ answer_numbers (answer p) → SumOrNone Exact Choice answer s p
  no_such_sum : ((q : List ℕ) → ¬ Exact q) → s ≡ answer_numbers (Says.Refused 7) → p ≡ [] → SumOrNone Exact Choice answer s p

-- kind 5: the chosen list with the fewest blocks, and how many they are
unfoldable pub Built : Job → AnswerNumbers → List ℕ → Type 0
Built j s p = SumOrNone (Makes j (labels j) j.budget) (Laid j j.budget) (λ q. Says.Blocks (sum q)) s p

-- kind 6's answer, where there are w ways: refusal 8 where they are 2^64 - 1 or more
unfoldable pub ways_answer : ℕ → Answer
ways_answer w = if (ltb w too_many) (Says.Ways w) (Says.Refused 8)

-- kind 6: the ways for C; no picks
pub record WaysGiven (j : Job) (s : AnswerNumbers) (p : List ℕ) : Type 0 where
  pub ways : ℕ
  pub how_many : WaysFor j (labels j) j.budget ways
  pub numbers : s ≡ answer_numbers (ways_answer ways)
  pub none_written : p ≡ []

-- kind 7: the shares, and the spare units
pub record Shared (j : Job) (s : AnswerNumbers) (p : List ℕ) : Type 0 where
  pub given : p ≡ shares_of j
  pub numbers : s ≡ answer_numbers (Says.Shares (spare_of j))

-- kind 8: the chosen labels that weigh exactly C, and their weight
unfoldable pub Weighed : Job → AnswerNumbers → List ℕ → Type 0
Weighed j s p =
    SumOrNone (Weighs j (labels j) j.budget) (Behind j (labels j) j.budget) (λ q. Says.Weight (total j.weights q)) s p

-- what a job of each kind is answered by
unfoldable pub Gives : Kind → Job → AnswerNumbers → List ℕ → Type 0
Gives (packing k) j s p = Packed (BestPicks k j (labels j) j.budget) j s p
Gives subset_sums j s p = Summed j s p
Gives fewest_blocks j s p = Built j s p
Gives block_ways j s p = WaysGiven j s p
Gives sharing j s p = Shared j s p
Gives labels_behind j s p = Weighed j s p
Gives stated_share j s p = Packed (StatedPicks j) j s p

-- kind 1: a row and a bit for each label and budget; or the full table
unfoldable pub OnceTable : Way → Job → Lent → Type 0
OnceTable Light j content = LightTable j content.cells content.words
OnceTable Full j content = ValueTable once j content.cells

-- what the needed places of the table hold after the call, by the way that kind 1 goes
unfoldable pub TableBy : Way → Kind → Job → Lent → Type 0
TableBy way (packing once) j content = OnceTable way j content
TableBy way (packing limited) j content = ValueTable limited j content.cells
TableBy way (packing free) j content = ValueTable free j content.cells
TableBy way subset_sums j content = BitTable j content.words
TableBy way fewest_blocks j content = FewestRow j content.cells
TableBy way block_ways j content = WaysRow j content.words
TableBy way sharing j content = Unit
TableBy way labels_behind j content = FirstRow j content.cells
TableBy way stated_share j content = StatedTable j content.cells

-- by the light way, which `solve` goes
abbrev pub TableHolds : Kind → Job → Lent → Type 0
TableHolds k j content = TableBy Light k j content

-- ---- what a call answers and leaves behind

-- a job that none of 1 to 6 and 9 refuses, of a kind that needs this room and leaves this table: `content` is what
-- the needed places hold, and all else is as it was
pub record Answered (room : Room) (table : Lent → Type 0) (k : Kind) (j : Job) (before : Lent) (s : AnswerNumbers) (after : Lent) : Type 0 where
  pub content : Lent
  pub gives : Gives k j s content.picks
  pub table_right : table content
  pub cells_needed : length content.cells ≡ room.cells
  pub words_needed : length content.words ≡ room.words
  pub cells_hold : Holds content.cells before.cells after.cells
  pub words_hold : Holds content.words before.words after.words
  pub picks_hold : Holds content.picks before.picks after.picks

-- a job that one of them refuses: the number alone, and nothing written
pub record TurnedDown (r : ℕ) (before : Lent) (s : AnswerNumbers) (after : Lent) : Type 0 where
  pub numbers : s ≡ answer_numbers (Says.Refused r)
  pub nothing_written : after ≡ before

-- what comes of a job, by its refusal number, 0 for none
unfoldable pub Outcome : ℕ → Room → (Lent → Type 0) → Kind → Job → Lent → AnswerNumbers → Lent → Type 0
Outcome zero room table k j before s after = Answered room table k j before s after
Outcome (suc r) room table k j before s after = TurnedDown (suc r) before s after

-- a call on any job, where a kind needs its room and leaves its table
module _ (room : Kind → Job → Room) (table : Kind → Job → Lent → Type 0) where
  -- a job whose kind number is that of a kind, or of none
  unfoldable pub SolvedAs : Option Kind → Job → Lent → AnswerNumbers → Lent → Type 0
  SolvedAs none j before s after = TurnedDown 2 before s after
  SolvedAs (some k) j before s after = Outcome (kind_refusal (room k j) k j before) (room k j) (table k j) k j before s after

  -- a job of lists
  unfoldable pub SolvedLists : Job → Lent → Answer → Lent → Type 0
  SolvedLists j before a after = SolvedAs (kind_of j.kind_number) j before (answer_numbers a) after

  -- job bytes, by what they are read as; the place of a break isn't told
  unfoldable pub SolvedRead : JobRead → Lent → Answer → Lent → Type 0
  SolvedRead (unreadable place) before a after = TurnedDown 1 before (answer_numbers a) after
  SolvedRead (readable j) before a after = SolvedLists j before a after

-- a job of kind k that none of 2 to 6 and 9 refuses, with these slices lent, by the way that kind 1 goes
pub record UnrefusedBy (way : Way) (k : Kind) (j : Job) (lent : Lent) : Type 0 where
  pub of_kind : kind_of j.kind_number ≡ some k
  pub no_refusal : kind_refusal (room_by way k j) k j lent ≡ 0

-- the planner's promise on a job of lists, called with the slices as `before`: the answer a, and the slices as `after`
pub record SolvedBy (way : Way) (j : Job) (before : Lent) (a : Answer) (after : Lent) : Type 0 where
  pub kept : SolvedLists (room_by way) (TableBy way) j before a after

-- the planner's promise on job bytes
pub record SolvedBytesBy (way : Way) (bytes : List ℕ) (before : Lent) (a : Answer) (after : Lent) : Type 0 where
  pub kept : SolvedRead (room_by way) (TableBy way) (read_job bytes) before a after

-- ---- by the light way, which `solve` goes, and by the full way

-- a job that is not refused, by the light way
abbrev pub Unrefused : Kind → Job → Lent → Type 0
Unrefused k j lent = UnrefusedBy Light k j lent

-- the promise on a job of lists, by the light way
abbrev pub Solved : Job → Lent → Answer → Lent → Type 0
Solved j before a after = SolvedBy Light j before a after

-- and on job bytes
abbrev pub SolvedBytes : List ℕ → Lent → Answer → Lent → Type 0
SolvedBytes bytes before a after = SolvedBytesBy Light bytes before a after

-- the promise on a job of lists, by the full way
abbrev pub SolvedFull : Job → Lent → Answer → Lent → Type 0
SolvedFull j before a after = SolvedBy Full j before a after

-- and on job bytes
abbrev pub SolvedFullBytes : List ℕ → Lent → Answer → Lent → Type 0
SolvedFullBytes bytes before a after = SolvedBytesBy Full bytes before a after
