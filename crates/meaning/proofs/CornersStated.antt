-- Kind 9: corner cases of q, of the divisor and of the cells, by computation; small choices; and whole calls.
-- Assumes nothing.
use mathlib.Core.Path.{◌≡◌, refl}
use Prim.Native.Nat.{suc, ℕ}
use mathlib.Core.List.{List, [], ◌∷◌, ◌++◌}
use lib.ListN.{replicate, take}
use Rattle.meaning.specs.Says as Says
use Rattle.meaning.specs.Bounds.{least_q, most_budget, most_labels, most_q, most_value}
use Rattle.meaning.specs.Job.{Job, job_of, stated_share}
use Rattle.meaning.specs.Cuts.{cut_sum, cut_values, divisor, greatest_value, remain, stated_cells}
use Rattle.meaning.specs.Lent.{lent_of}
use Rattle.meaning.specs.Bytes.{job_bytes, read_job, readable, section_bytes, unreadable}
use Rattle.meaning.specs.Solved.{Solved, SolvedBytes}
use Rattle.meaning.specs.Stated.{StatedPicks, StatedTable}
use Rattle.meaning.proofs.Laws.{solved_bytes}
use Rattle.meaning.proofs.SmallStated.{is_stated, is_stated_table, stated_out, stated_table_out}
use Rattle.meaning.proofs.Opens.{opens}
use Rattle.meaning.proofs.Cases.{case_a, plain, share_job}
use Rattle.meaning.proofs.Computing.{Computes, ◌gives◌, nothing, plenty, refusal_of, room}
use Rattle.meaning.proofs.Tables.{call, leaves}

-- a job of kind 9
abbrev stated : ℕ → ℕ → List ℕ → List ℕ → Job
stated budget q weights values = job_of 9 (budget ∷ q ∷ []) weights values []

-- ---- refusals

-- document 02's own numbers: here alone they are said a second time
q_bounds : Computes (λ (x : ℕ). x) (
    least_q gives 2
    ∷ most_q gives 100
    ∷ []
    )
unfolding opens
q_bounds = refl

-- 3 to 6; a job that keeps the rules gets on to 6, for nothing is lent
refusals_stated : Computes refusal_of (
    (stated 3 least_q (1 ∷ []) (1 ∷ []), nothing) gives 6  -- q at its least
    ∷ (stated 3 1 (1 ∷ []) (1 ∷ []), plenty) gives 5  -- one below
    ∷ (stated 3 most_q (1 ∷ []) (1 ∷ []), nothing) gives 6  -- q at its most
    ∷ (stated 3 (suc most_q) (1 ∷ []) (1 ∷ []), plenty) gives 5  -- one above
    ∷ (stated 3 0 [] [], plenty) gives 5  -- no q, and no labels
    ∷ (stated 3 4_294_967_295 [] [], nothing) gives 5  -- 5 before 6
    ∷ (job_of 9 (3 ∷ []) (1 ∷ []) (1 ∷ []) [], plenty) gives 5  -- one budget, as lists
    ∷ (stated 3 2 (1 ∷ []) [], nothing) gives 3  -- it has values
    ∷ (job_of 9 (3 ∷ 1 ∷ []) (1 ∷ []) (1 ∷ []) (1 ∷ []), plenty) gives 3  -- and no copies; 3 before 5
    ∷ (stated (suc most_budget) 1 (0 ∷ []) (1 ∷ []), nothing) gives 4  -- 4 before 5
    ∷ (stated 3 2 (0 ∷ []) (1 ∷ []), plenty) gives 5  -- weight 0
    ∷ (stated 3 2 (1 ∷ []) (suc most_value ∷ []), plenty) gives 5  -- a value above
    ∷ (share_job, room 27 0 2) gives 0  -- just enough
    ∷ (share_job, room 26 9 9) gives 6  -- one cell short
    ∷ (share_job, room 99 9 1) gives 6  -- one pick short
    ∷ (stated 3 2 [] [], room 1 0 0) gives 0  -- no labels: one cell
    ∷ (stated 3 2 [] [], room 0 9 9) gives 6  -- which is needed
    ∷ (plain 10 3 [] [] [], plenty) gives 2  -- one above the last kind
    ∷ []
    )
unfolding opens
refusals_stated = refl

-- n and C at their bounds, and one past them
bounds_stated : Computes refusal_of (
    (stated most_budget 2 (replicate most_labels 1) (replicate most_labels 0), nothing) gives 6  -- at the bounds
    ∷ (stated 0 2 (replicate (suc most_labels) 1) (replicate (suc most_labels) 0), nothing) gives 4  -- one label more
    ∷ (stated (suc most_budget) 2 [] [], nothing) gives 4  -- one unit more
    ∷ []
    )
unfolding opens
bounds_stated = refl

-- ---- job bytes

stated_back : read_job (job_bytes share_job) ≡ readable share_job
unfolding opens
stated_back = refl

budgets_broken : Computes read_job (
    (section_bytes (9 ∷ []) ++ section_bytes (7 ∷ [])) gives unreadable 8  -- kind 9 with one budget
    ∷ (section_bytes (9 ∷ []) ++ section_bytes (7 ∷ 2 ∷ 2 ∷ [])) gives unreadable 8  -- or three
    ∷ (section_bytes (8 ∷ []) ++ section_bytes (7 ∷ 2 ∷ [])) gives unreadable 8  -- two budgets of the kind before it
    ∷ (section_bytes (10 ∷ []) ++ section_bytes (7 ∷ 2 ∷ [])) gives unreadable 8  -- and of a number that is no kind
    ∷ (section_bytes (9 ∷ []) ++ take 11 (section_bytes (7 ∷ 2 ∷ []))) gives unreadable 12  -- q cut short
    ∷ []
    )
unfolding opens
budgets_broken = refl

-- other kinds ignore q where it is handed over: this is case A
ignored_a : job_of 1 (7 ∷ 5 ∷ []) (3 ∷ 4 ∷ 5 ∷ []) (4 ∷ 5 ∷ 6 ∷ []) [] ≡ case_a
unfolding opens
ignored_a = refl

-- ---- the labels that remain, the divisor and the cells

-- two labels, and a heavy one before, between or after them: it counts neither among m nor for p
abbrev heavy_first : Job
heavy_first = stated 3 2 (9 ∷ 3 ∷ 2 ∷ []) (99 ∷ 9 ∷ 8 ∷ [])

abbrev heavy_between : Job
heavy_between = stated 3 2 (3 ∷ 4 ∷ 2 ∷ []) (9 ∷ 99 ∷ 8 ∷ [])

abbrev heavy_last : Job
heavy_last = stated 3 2 (3 ∷ 2 ∷ 4_294_967_295 ∷ []) (9 ∷ 8 ∷ 65_535 ∷ [])

-- one label, and no budget for it
abbrev none_fits : Job
none_fits = stated 0 2 (1 ∷ []) (5 ∷ [])

remaining : Computes remain (share_job gives 2 ∷ heavy_first gives 2 ∷ heavy_between gives 2 ∷ heavy_last gives 2 ∷ none_fits gives 0 ∷ [])
unfolding opens
remaining = refl

greatest : Computes greatest_value (share_job gives 9 ∷ heavy_first gives 9 ∷ heavy_between gives 9 ∷ heavy_last gives 9 ∷ none_fits gives 0 ∷ [])
unfolding opens
greatest = refl

divisors : Computes divisor (
    share_job gives 2  -- 9 / (2 * 2), and a quarter is cut off
    ∷ heavy_first gives 2
    ∷ heavy_between gives 2
    ∷ heavy_last gives 2
    ∷ stated 3 3 (3 ∷ 2 ∷ []) (9 ∷ 8 ∷ []) gives 1  -- 9 / 6
    ∷ stated 3 5 (3 ∷ 2 ∷ []) (9 ∷ 8 ∷ []) gives 1  -- 9 / 10 is 0, but at least 1
    ∷ none_fits gives 1  -- no label remains
    ∷ stated 9 2 (1 ∷ []) (65_535 ∷ []) gives 32_767
    ∷ []
    )
unfolding opens
divisors = refl

cuts : Computes cut_values (
    share_job gives (4 ∷ 4 ∷ [])
    ∷ heavy_first gives (49 ∷ 4 ∷ 4 ∷ [])  -- a label left aside has a cut value, which counts nowhere
    ∷ stated 3 3 (3 ∷ 2 ∷ []) (9 ∷ 8 ∷ []) gives (9 ∷ 8 ∷ [])
    ∷ []
    )
unfolding opens
cuts = refl

sums : Computes cut_sum (share_job gives 8 ∷ heavy_first gives 8 ∷ heavy_between gives 8 ∷ heavy_last gives 8 ∷ none_fits gives 0 ∷ [])
unfolding opens
sums = refl

cells : Computes stated_cells (
    share_job gives 27
    ∷ heavy_last gives 27
    ∷ none_fits gives 1
    ∷ stated 3 2 [] [] gives 1
    ∷ stated most_budget most_q (replicate most_labels 1) (replicate most_labels most_value) gives 1_099_763_286_017  -- the most, which 32 bits don't hold
    ∷ []
    )
unfolding opens
cells = refl

-- ---- the picks

-- both cut values are 4: the lighter label is chosen, though the other is worth more
not_the_best : StatedPicks share_job (0 ∷ 1 ∷ [])
unfolding opens is_stated
not_the_best = stated_out _ _ tt

-- with the divisor 1 it is the best
uncut : StatedPicks (stated 3 3 (3 ∷ 2 ∷ []) (9 ∷ 8 ∷ [])) (1 ∷ 0 ∷ [])
unfolding opens is_stated
uncut = stated_out _ _ tt

-- labels left aside are never picked
aside : StatedPicks heavy_first (0 ∷ 0 ∷ 1 ∷ [])
unfolding opens is_stated
aside = stated_out _ _ tt

aside_between : StatedPicks heavy_between (0 ∷ 0 ∷ 1 ∷ [])
unfolding opens is_stated
aside_between = stated_out _ _ tt

-- equal totals and equal weights: smallest read from the last label to the first
tie_stated : StatedPicks (stated 5 2 (1 ∷ 2 ∷ 3 ∷ 4 ∷ 5 ∷ []) (1 ∷ 2 ∷ 3 ∷ 4 ∷ 5 ∷ [])) (0 ∷ 1 ∷ 1 ∷ 0 ∷ 0 ∷ [])
unfolding opens is_stated
tie_stated = stated_out _ _ tt

-- a label that is worth nothing weighs something, and is left out
worthless : StatedPicks (stated 5 2 (1 ∷ 2 ∷ []) (0 ∷ 0 ∷ [])) (0 ∷ 0 ∷ [])
unfolding opens is_stated
worthless = stated_out _ _ tt

-- no label remains, or there is none
none_remains : StatedPicks (stated 1 2 (2 ∷ 3 ∷ []) (9 ∷ 9 ∷ [])) (0 ∷ 0 ∷ [])
unfolding opens is_stated
none_remains = stated_out _ _ tt

no_labels_stated : StatedPicks (stated 5 2 [] []) []
unfolding opens is_stated
no_labels_stated = stated_out _ _ tt

-- ---- whole calls

abbrev none : ℕ
none = 4_294_967_295

abbrev cells₉ : List ℕ
cells₉ =
    0 ∷ none ∷ none ∷ none ∷ none ∷ none ∷ none ∷ none ∷ none
    ∷ 0 ∷ none ∷ none ∷ none ∷ 3 ∷ none ∷ none ∷ none ∷ none
    ∷ 0 ∷ none ∷ none ∷ none ∷ 2 ∷ none ∷ none ∷ none ∷ none ∷ []

table₉ : StatedTable share_job cells₉
unfolding opens is_stated_table
table₉ = stated_table_out share_job cells₉ tt

-- a heavy label makes no row
table_aside : StatedTable heavy_between cells₉
unfolding opens is_stated_table
table_aside = stated_table_out heavy_between cells₉ tt

call₉ : Solved share_job (lent_of (replicate 27 9 ++ (7 ∷ [])) (8 ∷ []) (6 ∷ 6 ∷ 6 ∷ [])) (Says.Knapsack 8 2)
    (lent_of (cells₉ ++ (7 ∷ [])) (8 ∷ []) (0 ∷ 1 ∷ 6 ∷ []))
unfolding call
call₉ =
    leaves stated_share share_job (lent_of cells₉ [] (0 ∷ 1 ∷ []))
    (record { picked = not_the_best; numbers = refl }) table₉ refl refl refl refl refl refl refl

-- the same from bytes
call₉_bytes : SolvedBytes (job_bytes share_job) (lent_of (replicate 27 9 ++ (7 ∷ [])) (8 ∷ []) (6 ∷ 6 ∷ 6 ∷ [])) (Says.Knapsack 8 2)
    (lent_of (cells₉ ++ (7 ∷ [])) (8 ∷ []) (0 ∷ 1 ∷ 6 ∷ []))
call₉_bytes = solved_bytes (job_bytes share_job) share_job _ _ _ stated_back call₉

-- no label remains: one cell, which is 0
call_none : Solved (stated 1 2 (2 ∷ 3 ∷ []) (9 ∷ 9 ∷ [])) (lent_of (9 ∷ 7 ∷ []) [] (6 ∷ 6 ∷ [])) (Says.Knapsack 0 0)
    (lent_of (0 ∷ 7 ∷ []) [] (0 ∷ 0 ∷ []))
unfolding call is_stated_table
call_none =
    leaves stated_share (stated 1 2 (2 ∷ 3 ∷ []) (9 ∷ 9 ∷ [])) (lent_of (0 ∷ []) [] (0 ∷ 0 ∷ []))
    (record { picked = none_remains; numbers = refl }) (stated_table_out _ (0 ∷ []) tt) refl refl refl refl refl refl refl
