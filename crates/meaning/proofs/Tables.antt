-- The tables of small jobs, cell by cell, and whole calls: the answer, and every slice before and after.
-- The lent slices are longer than needed, and what they hold past the needed places stays.
-- Assumes nothing.
use mathlib.Core.Path.{◌≡◌, ap, refl, sym}
use mathlib.Core.Option.{some}
use Prim.Native.Nat.{suc, ℕ}
use mathlib.Core.Bool.{true}
use mathlib.Core.List.{List, [], ◌∷◌, ◌++◌}
use lib.Dec.{lit≤}
use lib.ListN.{get_or, length, replicate}
use Rattle.meaning.specs.Says.{Answer}
use Rattle.meaning.specs.Says as Says
use Rattle.meaning.specs.declared.Way.{Way}
use Rattle.meaning.specs.Slices.{Holds}
use Rattle.meaning.specs.Job.{Job, Kind, all_kinds, block_ways, fewest_blocks, free, job_of, kind_of, labels, labels_behind}
use Rattle.meaning.specs.Job.{limited, once, packing, sharing, subset_sums}
use Rattle.meaning.specs.Lent.{Lent, lent_of, room_by}
use Rattle.meaning.specs.Refusals.{kind_refusal}
use Rattle.meaning.specs.Bytes.{job_bytes}
use Rattle.meaning.specs.Knapsacks.{FullTable, OneRow, ValueTable}
use Rattle.meaning.specs.Sums.{BitTable, ReachedWithin, TotalCount, YesOrNo, is_so}
use Rattle.meaning.specs.Light.{LightTable}
use Rattle.meaning.specs.Behind.{FirstRow}
use Rattle.meaning.specs.Blocks.{FewestRow, WaysFor, WaysRow, WaysShown}
use Rattle.meaning.specs.Answers.{answer_numbers}
use Rattle.meaning.specs.Solved.{Built, Gives, OnceTable, Outcome, Solved, SolvedAs, SolvedBy, SolvedBytes, SolvedFull}
use Rattle.meaning.specs.Solved.{SolvedLists, SolvedRead, TableBy, Weighed, a_sum, no_such_sum}
use Rattle.meaning.specs.Agreement.{Agreed, GetsPast6, SameAnswer}
use Rattle.meaning.proofs.Agreement.{kinds_agree}
use Rattle.meaning.proofs.Ways.{ways_agree}
use Rattle.meaning.proofs.EachKind.{not_said, refusals}
use Rattle.meaning.proofs.Laws.{answered_solved}
use Rattle.meaning.proofs.Reaching.{no_labels}
use Rattle.meaning.proofs.Small.{behind_out, behind_weighs, counted_out, is_behind, is_counted, is_laid, is_selection, laid_makes, laid_out}
use Rattle.meaning.proofs.Small.{misses, misses_out, picked, picked_out, reached_by, totalled, totalled_out, unmade, unmade_out}
use Rattle.meaning.proofs.SmallTables.{bit_table_out, fewest_row_out, first_row_out, full_table_out, is_bit_table, is_fewest_row, is_first_row}
use Rattle.meaning.proofs.SmallTables.{is_full_table, is_light_table, is_row, is_ways_row, light_table_out, row_out, ways_row_out}
use Rattle.meaning.proofs.Opens.{opens}
use Rattle.meaning.proofs.Cases.{case_j}

-- a call that no refusal meets and that leaves `content` in the needed places
pub leaves : {way : Way} (k : Kind) (j : Job) (content : Lent) {before after : Lent} {a : Answer} → Gives k j (answer_numbers a) content.picks
    → TableBy way k j content → kind_of j.kind_number ≡ some k → kind_refusal (room_by way k j) k j before ≡ 0
    → length content.cells ≡ (room_by way k j).cells → length content.words ≡ (room_by way k j).words
    → Holds content.cells before.cells after.cells → Holds content.words before.words after.words
    → Holds content.picks before.picks after.picks → SolvedBy way j before a after
leaves k j content {before} {after} {a} given table of_kind no_refusal cells words cells' words' picks' =
    answered_solved k j before after a (record { of_kind = of_kind; no_refusal = no_refusal })
    (record {
      content = content;
      gives = given;
      table_right = table;
      cells_needed = cells;
      words_needed = words;
      cells_hold = cells';
      words_hold = words';
      picks_hold = picks';
    })

-- `unfolding call` unfolds what a call promises
unfoldable pub call : Unit {0}
unfolding opens SolvedLists SolvedAs Outcome Gives TableBy OnceTable ValueTable Holds
call = tt

-- ---- kind 1: J's job

-- a row of all labels, and label 0's bit of 2 alone
light₁ : LightTable case_j (0 ∷ 0 ∷ 3 ∷ []) (4 ∷ [])
unfolding opens is_light_table
light₁ = light_table_out case_j (0 ∷ 0 ∷ 0 ∷ 0 ∷ 0 ∷ 3 ∷ []) _ _ tt

light_call₁ : Solved case_j
    (lent_of (9 ∷ 9 ∷ 9 ∷ 7 ∷ []) (9 ∷ 8 ∷ []) (9 ∷ 6 ∷ []))
    (Says.Knapsack 3 2)
    (lent_of (0 ∷ 0 ∷ 3 ∷ 7 ∷ []) (4 ∷ 8 ∷ []) (1 ∷ 6 ∷ []))
unfolding call picked
light_call₁ =
    leaves (packing once) case_j (lent_of (0 ∷ 0 ∷ 3 ∷ []) (4 ∷ []) (1 ∷ []))
    (record { picked = picked_out once case_j (1 ∷ []) tt; numbers = refl }) light₁ refl refl refl refl refl refl refl

-- no labels: a row of 0, and no words
light_none : LightTable (job_of 1 (2 ∷ []) [] [] []) (0 ∷ 0 ∷ 0 ∷ []) []
unfolding opens is_light_table
light_none = light_table_out (job_of 1 (2 ∷ []) [] [] []) (0 ∷ 0 ∷ 0 ∷ []) _ _ tt

-- a second label that does as well raises nothing; nor does one that is heavier than C, or one that is worth 0
light_tied : LightTable (job_of 1 (1 ∷ []) (1 ∷ 1 ∷ 2 ∷ 1 ∷ []) (3 ∷ 3 ∷ 9 ∷ 0 ∷ []) []) (0 ∷ 3 ∷ []) (2 ∷ 0 ∷ 0 ∷ 0 ∷ [])
unfolding opens is_light_table
light_tied = light_table_out (job_of 1 (1 ∷ []) (1 ∷ 1 ∷ 2 ∷ 1 ∷ []) (3 ∷ 3 ∷ 9 ∷ 0 ∷ []) []) (0 ∷ 0 ∷ 0 ∷ 3 ∷ 0 ∷ 3 ∷ 0 ∷ 3 ∷ 0 ∷ 3 ∷ []) _ _ tt

-- a budget of 0: a cell, and a word with no bit
light_no_budget : LightTable (job_of 1 (0 ∷ []) (1 ∷ []) (3 ∷ []) []) (0 ∷ []) (0 ∷ [])
unfolding opens is_light_table
light_no_budget = light_table_out (job_of 1 (0 ∷ []) (1 ∷ []) (3 ∷ []) []) (0 ∷ 0 ∷ []) _ _ tt

-- C 64: the bit of 64 is the first of the label's second word
light_border : LightTable (job_of 1 (64 ∷ []) (64 ∷ []) (5 ∷ []) []) (replicate 64 0 ++ (5 ∷ [])) (0 ∷ 1 ∷ [])
unfolding opens is_light_table
light_border = light_table_out (job_of 1 (64 ∷ []) (64 ∷ []) (5 ∷ []) []) (replicate 129 0 ++ (5 ∷ [])) _ _ tt

-- the full way: a row of no labels, and a row of label 0
table₁ : FullTable once case_j (0 ∷ 0 ∷ 0 ∷ 0 ∷ 0 ∷ 3 ∷ [])
unfolding opens is_full_table
table₁ = full_table_out once case_j _ tt

full_call₁ : SolvedFull case_j
    (lent_of (9 ∷ 9 ∷ 9 ∷ 9 ∷ 9 ∷ 9 ∷ 7 ∷ []) (8 ∷ []) (9 ∷ 6 ∷ []))
    (Says.Knapsack 3 2)
    (lent_of (0 ∷ 0 ∷ 0 ∷ 0 ∷ 0 ∷ 3 ∷ 7 ∷ []) (8 ∷ []) (1 ∷ 6 ∷ []))
unfolding call picked
full_call₁ =
    leaves (packing once) case_j (lent_of (0 ∷ 0 ∷ 0 ∷ 0 ∷ 0 ∷ 3 ∷ []) [] (1 ∷ []))
    (record { picked = picked_out once case_j (1 ∷ []) tt; numbers = refl }) table₁ refl refl refl refl refl refl refl

-- both ways answer the same
agreed_1 : SameAnswer (Says.Knapsack 3 2) (Says.Knapsack 3 2) (9 ∷ 6 ∷ []) (1 ∷ 6 ∷ []) (9 ∷ 6 ∷ []) (1 ∷ 6 ∷ [])
unfolding refusals answer_numbers lent_of
agreed_1 =
    ways_agree case_j _ (lent_of (0 ∷ 0 ∷ 3 ∷ 7 ∷ []) (4 ∷ 8 ∷ []) (1 ∷ 6 ∷ [])) _ (lent_of (0 ∷ 0 ∷ 0 ∷ 0 ∷ 0 ∷ 3 ∷ 7 ∷ []) (8 ∷ []) (1 ∷ 6 ∷ []))
    (Says.Knapsack 3 2) (Says.Knapsack 3 2) light_call₁ full_call₁
    (λ e. not_said 6 (Says.Knapsack 3 2) refl (sym (ap answer_numbers e))) (λ e. not_said 6 (Says.Knapsack 3 2) refl (sym (ap answer_numbers e)))

-- ---- kind 2: a label of two copies, where a third would fit

abbrev job₂ : Job
job₂ = job_of 2 (3 ∷ []) (1 ∷ []) (3 ∷ []) (2 ∷ [])

table₂ : FullTable limited job₂ (0 ∷ 0 ∷ 0 ∷ 0 ∷ 0 ∷ 3 ∷ 6 ∷ 6 ∷ [])
unfolding opens is_full_table
table₂ = full_table_out limited job₂ _ tt

call₂ : Solved job₂
    (lent_of (9 ∷ 9 ∷ 9 ∷ 9 ∷ 9 ∷ 9 ∷ 9 ∷ 9 ∷ 7 ∷ []) (8 ∷ []) (9 ∷ 6 ∷ []))
    (Says.Knapsack 6 2)
    (lent_of (0 ∷ 0 ∷ 0 ∷ 0 ∷ 0 ∷ 3 ∷ 6 ∷ 6 ∷ 7 ∷ []) (8 ∷ []) (2 ∷ 6 ∷ []))
unfolding call picked
call₂ =
    leaves (packing limited) job₂ (lent_of (0 ∷ 0 ∷ 0 ∷ 0 ∷ 0 ∷ 3 ∷ 6 ∷ 6 ∷ []) [] (2 ∷ []))
    (record { picked = picked_out limited job₂ (2 ∷ []) tt; numbers = refl }) table₂ refl refl refl refl refl refl refl

-- ---- kind 3: E's second job

abbrev job₃ : Job
job₃ = job_of 3 (4 ∷ []) (2 ∷ 4 ∷ []) (1 ∷ 2 ∷ []) []

row₃ : OneRow free job₃ (0 ∷ 0 ∷ 1 ∷ 1 ∷ 2 ∷ [])
unfolding opens is_row
row₃ = row_out free job₃ _ tt

call₃ : Solved job₃
    (lent_of (9 ∷ 9 ∷ 9 ∷ 9 ∷ 9 ∷ 7 ∷ []) (8 ∷ []) (9 ∷ 9 ∷ 6 ∷ []))
    (Says.Knapsack 2 4)
    (lent_of (0 ∷ 0 ∷ 1 ∷ 1 ∷ 2 ∷ 7 ∷ []) (8 ∷ []) (2 ∷ 0 ∷ 6 ∷ []))
unfolding call picked
call₃ =
    leaves (packing free) job₃ (lent_of (0 ∷ 0 ∷ 1 ∷ 1 ∷ 2 ∷ []) [] (2 ∷ 0 ∷ []))
    (record { picked = picked_out free job₃ (2 ∷ 0 ∷ []) tt; numbers = refl }) row₃ refl refl refl refl refl refl refl

-- ---- kind 4: F's first two jobs, and one of two words

abbrev three_labels : ℕ → Job
three_labels budget = job_of 4 (budget ∷ []) (3 ∷ 5 ∷ 9 ∷ []) [] []

-- the bits of 0, 3, 5 and 8; 9 is reached and above C
bits_to_8 : BitTable (three_labels 8) (297 ∷ [])
unfolding opens is_bit_table
bits_to_8 = bit_table_out (three_labels 8) _ tt

-- the bits of 0, 3 and 5
bits_to_7 : BitTable (three_labels 7) (41 ∷ [])
unfolding opens is_bit_table
bits_to_7 = bit_table_out (three_labels 7) _ tt

abbrev job₄ : Job
job₄ = job_of 4 (64 ∷ []) (63 ∷ 64 ∷ []) [] []

-- the last bit of the first word and the first of the second; 127, whose bit is the last of the second, is reached and above C
bits₄ : BitTable job₄ (9_223_372_036_854_775_809 ∷ 1 ∷ [])
unfolding opens is_bit_table
bits₄ = bit_table_out job₄ _ tt

call₄ : Solved job₄
    (lent_of (8 ∷ []) (9 ∷ 9 ∷ 7 ∷ []) (6 ∷ []))
    (Says.Sums true 3)
    (lent_of (8 ∷ []) (9_223_372_036_854_775_809 ∷ 1 ∷ 7 ∷ []) (6 ∷ []))
unfolding call is_selection totalled YesOrNo TotalCount
call₄ =
    leaves subset_sums job₄ (lent_of [] (9_223_372_036_854_775_809 ∷ 1 ∷ []) [])
    (record {
      yes = true;
      totals = 3;
      tells = is_so (reached_by job₄ (0 ∷ 1 ∷ []) 64 tt refl) refl;
      how_many = totalled_out job₄ ((0 ∷ 0 ∷ []) ∷ (1 ∷ 0 ∷ []) ∷ (0 ∷ 1 ∷ []) ∷ []) tt;
      numbers = refl;
      none_written = refl;
    })
    bits₄ refl refl refl refl refl refl refl

-- of no labels, 0 alone is reached
only_0_reached : (t : ℕ) → ReachedWithin job₄ 0 t → t ≡ 0
only_0_reached t r = no_labels job₄ t r.reached

-- ---- kind 5: G's first job, and its third, which has no list of blocks

abbrev job₅ : Job
job₅ = job_of 5 (6 ∷ []) (1 ∷ 3 ∷ 4 ∷ []) [] []

row₅ : FewestRow job₅ (0 ∷ 1 ∷ 2 ∷ 1 ∷ 1 ∷ 2 ∷ 2 ∷ [])
unfolding opens is_fewest_row
row₅ = fewest_row_out job₅ _ tt

call₅ : Solved job₅
    (lent_of (9 ∷ 9 ∷ 9 ∷ 9 ∷ 9 ∷ 9 ∷ 9 ∷ 7 ∷ []) (8 ∷ []) (9 ∷ 9 ∷ 9 ∷ 6 ∷ []))
    (Says.Blocks 2)
    (lent_of (0 ∷ 1 ∷ 2 ∷ 1 ∷ 1 ∷ 2 ∷ 2 ∷ 7 ∷ []) (8 ∷ []) (0 ∷ 2 ∷ 0 ∷ 6 ∷ []))
unfolding call Built is_laid
call₅ =
    leaves fewest_blocks job₅ (lent_of (0 ∷ 1 ∷ 2 ∷ 1 ∷ 1 ∷ 2 ∷ 2 ∷ []) [] (0 ∷ 2 ∷ 0 ∷ []))
    (a_sum (laid_makes job₅ (0 ∷ 2 ∷ 0 ∷ []) tt) (laid_out job₅ (0 ∷ 2 ∷ 0 ∷ []) tt) refl) row₅ refl refl refl refl refl refl refl

abbrev unmade₅ : Job
unmade₅ = job_of 5 (7 ∷ []) (5 ∷ 10 ∷ []) [] []

-- no way but for 0 and 5
unmade_row : FewestRow unmade₅ (0 ∷ 4_294_967_295 ∷ 4_294_967_295 ∷ 4_294_967_295 ∷ 4_294_967_295 ∷ 1 ∷ 4_294_967_295 ∷ 4_294_967_295 ∷ [])
unfolding opens is_fewest_row
unmade_row = fewest_row_out unmade₅ _ tt

unmade_answer : Gives fewest_blocks unmade₅ (answer_numbers (Says.Refused 7)) []
unfolding call Built unmade
unmade_answer = no_such_sum (unmade_out unmade₅ 7 tt) refl refl

-- the table is complete, and the picks are as they were
unmade_call : Solved unmade₅
    (lent_of (9 ∷ 9 ∷ 9 ∷ 9 ∷ 9 ∷ 9 ∷ 9 ∷ 9 ∷ 7 ∷ []) (8 ∷ []) (6 ∷ 6 ∷ []))
    (Says.Refused 7)
    (lent_of (0 ∷ 4_294_967_295 ∷ 4_294_967_295 ∷ 4_294_967_295 ∷ 4_294_967_295 ∷ 1 ∷ 4_294_967_295 ∷ 4_294_967_295 ∷ 7 ∷ []) (8 ∷ []) (6 ∷ 6 ∷ []))
unfolding call
unmade_call =
    leaves fewest_blocks unmade₅
    (lent_of (0 ∷ 4_294_967_295 ∷ 4_294_967_295 ∷ 4_294_967_295 ∷ 4_294_967_295 ∷ 1 ∷ 4_294_967_295 ∷ 4_294_967_295 ∷ []) [] [])
    unmade_answer unmade_row refl refl refl refl refl refl refl

-- ---- kind 6: H's first job

abbrev job₆ : Job
job₆ = job_of 6 (5 ∷ []) (1 ∷ 2 ∷ 5 ∷ []) [] []

-- the ways for 0 to 5
abbrev ways₆ : List (List (List ℕ))
ways₆ =
    ((0 ∷ 0 ∷ 0 ∷ []) ∷ [])
    ∷ ((1 ∷ 0 ∷ 0 ∷ []) ∷ [])
    ∷ ((2 ∷ 0 ∷ 0 ∷ []) ∷ (0 ∷ 1 ∷ 0 ∷ []) ∷ [])
    ∷ ((3 ∷ 0 ∷ 0 ∷ []) ∷ (1 ∷ 1 ∷ 0 ∷ []) ∷ [])
    ∷ ((4 ∷ 0 ∷ 0 ∷ []) ∷ (2 ∷ 1 ∷ 0 ∷ []) ∷ (0 ∷ 2 ∷ 0 ∷ []) ∷ [])
    ∷ ((5 ∷ 0 ∷ 0 ∷ []) ∷ (3 ∷ 1 ∷ 0 ∷ []) ∷ (1 ∷ 2 ∷ 0 ∷ []) ∷ (0 ∷ 0 ∷ 1 ∷ []) ∷ [])
    ∷ []

row₆ : WaysRow job₆ (1 ∷ 1 ∷ 2 ∷ 2 ∷ 3 ∷ 4 ∷ [])
unfolding opens is_ways_row
row₆ = ways_row_out job₆ _ ways₆ tt

call₆ : Solved job₆
    (lent_of (8 ∷ []) (9 ∷ 9 ∷ 9 ∷ 9 ∷ 9 ∷ 9 ∷ 7 ∷ []) (6 ∷ []))
    (Says.Ways 4)
    (lent_of (8 ∷ []) (1 ∷ 1 ∷ 2 ∷ 2 ∷ 3 ∷ 4 ∷ 7 ∷ []) (6 ∷ []))
unfolding call is_counted
call₆ =
    leaves block_ways job₆ (lent_of [] (1 ∷ 1 ∷ 2 ∷ 2 ∷ 3 ∷ 4 ∷ []) [])
    (record { ways = 4; how_many = counted_out job₆ (get_or ways₆ 5 []) tt; numbers = refl; none_written = refl })
    row₆ refl refl refl refl refl refl refl

-- ---- kind 6: ways that are many

module _ (j : Job) (i a : ℕ) where
  -- one less than 2^64 - 1 is shown as it is
  one_less_shown : WaysFor j i a 18_446_744_073_709_551_614 → WaysShown j i a 18_446_744_073_709_551_614
  unfolding opens
  one_less_shown h = record { many = 18_446_744_073_709_551_614; how_many = h; lesser = refl }

  -- more are shown as 2^64 - 1
  more_shown : WaysFor j i a 18_446_744_073_709_551_616 → WaysShown j i a 18_446_744_073_709_551_615
  unfolding opens
  more_shown h = record { many = 18_446_744_073_709_551_616; how_many = h; lesser = refl }

module _ (j : Job) where
  -- one less than 2^64 - 1 is answered
  one_less_answered : WaysFor j (labels j) j.budget 18_446_744_073_709_551_614
      → Gives block_ways j (answer_numbers (Says.Ways 18_446_744_073_709_551_614)) []
  unfolding call
  one_less_answered h = record { ways = 18_446_744_073_709_551_614; how_many = h; numbers = refl; none_written = refl }

  -- 2^64 - 1 is refused
  full_refused : WaysFor j (labels j) j.budget 18_446_744_073_709_551_615 → Gives block_ways j (answer_numbers (Says.Refused 8)) []
  unfolding call
  full_refused h = record { ways = 18_446_744_073_709_551_615; how_many = h; numbers = refl; none_written = refl }

-- ---- kind 7: I's first job

abbrev job₇ : Job
job₇ = job_of 7 (10 ∷ []) (1 ∷ 1 ∷ 1 ∷ []) [] []

call₇ : Solved job₇
    (lent_of (8 ∷ []) (7 ∷ []) (9 ∷ 9 ∷ 9 ∷ 6 ∷ []))
    (Says.Shares 1)
    (lent_of (8 ∷ []) (7 ∷ []) (4 ∷ 3 ∷ 3 ∷ 6 ∷ []))
unfolding call
call₇ = leaves sharing job₇ (lent_of [] [] (4 ∷ 3 ∷ 3 ∷ [])) (record { given = refl; numbers = refl }) tt refl refl refl refl refl refl refl

-- ---- kind 8: F's jobs, the first with its labels, the second with none

abbrev three_behind : ℕ → Job
three_behind budget = job_of 8 (budget ∷ []) (3 ∷ 5 ∷ 9 ∷ []) [] []

-- 3 by the first label, 5 and 8 by the first two, 0 by none
abbrev cells₈ : List ℕ
cells₈ = 0 ∷ 4_294_967_295 ∷ 4_294_967_295 ∷ 1 ∷ 4_294_967_295 ∷ 2 ∷ 4_294_967_295 ∷ 4_294_967_295 ∷ 2 ∷ []

row₈ : FirstRow (three_behind 8) cells₈
unfolding opens is_first_row
row₈ = first_row_out (three_behind 8) cells₈ tt

call₈ : Solved (three_behind 8)
    (lent_of (9 ∷ 9 ∷ 9 ∷ 9 ∷ 9 ∷ 9 ∷ 9 ∷ 9 ∷ 9 ∷ 7 ∷ []) (8 ∷ []) (9 ∷ 9 ∷ 9 ∷ 6 ∷ []))
    (Says.Weight 8)
    (lent_of (cells₈ ++ (7 ∷ [])) (8 ∷ []) (1 ∷ 1 ∷ 0 ∷ 6 ∷ []))
unfolding call Weighed is_behind
call₈ =
    leaves labels_behind (three_behind 8) (lent_of cells₈ [] (1 ∷ 1 ∷ 0 ∷ []))
    (a_sum (behind_weighs (three_behind 8) (1 ∷ 1 ∷ 0 ∷ []) tt) (behind_out (three_behind 8) (1 ∷ 1 ∷ 0 ∷ []) tt) refl) row₈ refl refl refl refl refl refl refl

-- the same without the last cell: the table is complete, and the picks are as they were
abbrev unreached_cells : List ℕ
unreached_cells = 0 ∷ 4_294_967_295 ∷ 4_294_967_295 ∷ 1 ∷ 4_294_967_295 ∷ 2 ∷ 4_294_967_295 ∷ 4_294_967_295 ∷ []

unreached_row : FirstRow (three_behind 7) unreached_cells
unfolding opens is_first_row
unreached_row = first_row_out (three_behind 7) unreached_cells tt

unreached_call : Solved (three_behind 7)
    (lent_of (9 ∷ 9 ∷ 9 ∷ 9 ∷ 9 ∷ 9 ∷ 9 ∷ 9 ∷ 7 ∷ []) (8 ∷ []) (6 ∷ 6 ∷ 6 ∷ []))
    (Says.Refused 7)
    (lent_of (unreached_cells ++ (7 ∷ [])) (8 ∷ []) (6 ∷ 6 ∷ 6 ∷ []))
unfolding call Weighed misses
unreached_call =
    leaves labels_behind (three_behind 7) (lent_of unreached_cells [] [])
    (no_such_sum (misses_out (three_behind 7) 3 7 (lit≤ tt) tt) refl refl) unreached_row refl refl refl refl refl refl refl

-- kind 4's call on the first of them, and what the two agree on
bits_call : Solved (three_labels 8) (lent_of [] (9 ∷ 7 ∷ []) []) (Says.Sums true 4) (lent_of [] (297 ∷ 7 ∷ []) [])
unfolding call is_selection totalled YesOrNo TotalCount
bits_call =
    leaves subset_sums (three_labels 8) (lent_of [] (297 ∷ []) [])
    (record {
      yes = true;
      totals = 4;
      tells = is_so (reached_by (three_labels 8) (1 ∷ 1 ∷ 0 ∷ []) 8 tt refl) refl;
      how_many = totalled_out (three_labels 8) ((0 ∷ 0 ∷ 0 ∷ []) ∷ (1 ∷ 0 ∷ 0 ∷ []) ∷ (0 ∷ 1 ∷ 0 ∷ []) ∷ (1 ∷ 1 ∷ 0 ∷ []) ∷ []) tt;
      numbers = refl;
      none_written = refl;
    })
    bits_to_8 refl refl refl refl refl refl refl

agreed_8 : Agreed 8 (297 ∷ 7 ∷ []) (Says.Sums true 4) (cells₈ ++ (7 ∷ [])) (Says.Weight 8)
unfolding GetsPast6 refusals answer_numbers lent_of
agreed_8 =
    kinds_agree 8 (3 ∷ 5 ∷ 9 ∷ []) [] [] [] []
    _ (lent_of [] (297 ∷ 7 ∷ []) []) _ (lent_of (cells₈ ++ (7 ∷ [])) (8 ∷ []) (1 ∷ 1 ∷ 0 ∷ 6 ∷ [])) (Says.Sums true 4) (Says.Weight 8)
    bits_call (λ r low high e. not_said r (Says.Sums true 4) refl (sym (ap answer_numbers e)))
    call₈ (λ r low high e. not_said r (Says.Weight 8) refl (sym (ap answer_numbers e)))

-- two of three labels do as well as the last: the table names the earlier ones
tied_row : FirstRow (job_of 8 (3 ∷ []) (1 ∷ 2 ∷ 3 ∷ []) [] []) (0 ∷ 1 ∷ 2 ∷ 2 ∷ [])
unfolding opens is_first_row
tied_row = first_row_out _ _ tt

-- a label is used once: 4 isn't reached by two of it
once_row : FirstRow (job_of 8 (4 ∷ []) (2 ∷ []) [] []) (0 ∷ 4_294_967_295 ∷ 1 ∷ 4_294_967_295 ∷ 4_294_967_295 ∷ [])
unfolding opens is_first_row
once_row = first_row_out _ _ tt

-- ---- refused calls: nothing written

abbrev lent : Lent
lent = lent_of (8 ∷ []) (7 ∷ []) (6 ∷ [])

-- one above the last kind
no_kind : Solved (job_of (suc (length all_kinds)) (0 ∷ []) [] [] []) lent (Says.Refused 2) lent
unfolding call
no_kind = record { kept = record { numbers = refl; nothing_written = refl } }

too_few_cells : Solved case_j lent (Says.Refused 6) lent
unfolding call
too_few_cells = record { kept = record { numbers = refl; nothing_written = refl } }

-- the same on job bytes
too_few_from_bytes : SolvedBytes (job_bytes case_j) lent (Says.Refused 6) lent
unfolding call SolvedRead
too_few_from_bytes = record { kept = record { numbers = refl; nothing_written = refl } }

no_job : SolvedBytes [] lent (Says.Refused 1) lent
unfolding call SolvedRead
no_job = record { kept = record { numbers = refl; nothing_written = refl } }
