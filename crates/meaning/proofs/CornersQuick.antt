-- The quick answer on small jobs, by computation: the order of two labels, both lists, and which of them is named with its value; refusals 3 to 6,
-- and the answer's numbers. A definition that is altered shows here, for no law is cited.
-- Assumes nothing.
use mathlib.Core.Path.{◌≡◌, ap, refl, sym}
use Prim.Native.Nat.{ℕ, suc}
use mathlib.Core.Bool.{Bool, false, true}
use mathlib.Core.List.{List, [], ◌∷◌}
use lib.Dec.{T}
use lib.ListN.{length, replicate}
use Rattle.meaning.specs.Hands.{Quick}
use Rattle.meaning.specs.Hands.{First, Refused, Second}
use Rattle.meaning.specs.Slices.{Holds, over}
use Rattle.meaning.specs.Job.{Job, labels, once}
use Rattle.meaning.specs.Bounds.{most_budget, most_labels, most_value}
use Rattle.meaning.specs.Knapsacks.{BestPicks}
use Rattle.meaning.specs.Answers.{quick_numbers}
use Rattle.meaning.specs.Quick.{Filled, FilledAs, Single, goes_before, quick_job, quick_refusal, worthier}
use Rattle.meaning.proofs.Small.{picked, picked_out}
use Rattle.meaning.proofs.SmallQuick.{greedy_out, greedy_test, is_no_single, single_test, no_single_out, single_out}
use Rattle.meaning.proofs.Opens.{opens}
use Rattle.meaning.proofs.Cases.{case_a, case_c}
use Rattle.meaning.proofs.Computing.{Computes, ◌gives◌}

-- ---- which of two labels goes first

-- labels 0 and 1, each as its value and its weight: whether 0 goes before 1, and 1 before 0
abbrev each_before : (ℕ × ℕ) × (ℕ × ℕ) → Bool × Bool
each_before ((v, w), (x, y)) = (goes_before (v ∷ x ∷ []) (w ∷ y ∷ []) 0 1, goes_before (v ∷ x ∷ []) (w ∷ y ∷ []) 1 0)

order : Computes each_before (
    ((5, 4), (4, 3)) gives (false, true)  -- worth more, but less for its weight
    ∷ ((2, 4), (3, 6)) gives (true, false)  -- equal for their weights: the lower number
    ∷ ((3, 6), (2, 4)) gives (true, false)  -- listed the other way
    ∷ ((10, 3), (7, 2)) gives (false, true)  -- 3 1/3 and 3 1/2, which are equal when cut to whole numbers
    ∷ ((0, 1), (0, 2)) gives (true, false)  -- both worth 0
    ∷ ((0, 1), (1, 4_294_967_295)) gives (false, true)  -- worth 0 comes last
    ∷ ((most_value, 4_294_967_295), (most_value, 4_294_967_294)) gives (false, true)  -- products of 48 bits
    ∷ ((32_768, 1), (1, 131_072)) gives (true, false)  -- one product is 2^32, the other 1
    ∷ []
    )
unfolding opens
order = refl

-- ---- whole calls

-- what a list holds before a call: a 9 for each label, and one more
unfoldable pub nines : Job → List ℕ
nines j = replicate (suc (labels j)) 9

-- a call with two such lists: the answer, the greedy list that is written over the first one, and the single list over the second
pub record Quickly (j : Job) (a : Quick) (greedy single : List ℕ) : Type 0 where
  pub unrefused : quick_refusal j (length (nines j)) (length (nines j)) ≡ 0
  pub call : Filled j (nines j) (nines j) a (over greedy (nines j)) (over single (nines j))

-- shown by tests on the two lists
module _ {j : Job} {a : Quick} {greedy single : List ℕ} (unrefused : quick_refusal j (length (nines j)) (length (nines j)) ≡ 0)
    (is_greedy : T (greedy_test j greedy)) (answer : worthier j greedy single ≡ a) where
  with_single : Single j single → Quickly j a greedy single
  unfolding FilledAs Holds
  with_single is_single =
      record {
        unrefused = unrefused;
        call =
            record {
              kept = rw unrefused
                  (record {
                    greedy = greedy;
                    single = single;
                    is_greedy = greedy_out j greedy is_greedy;
                    is_single = is_single;
                    first_holds = refl;
                    second_holds = refl;
                    numbers = ap quick_numbers (sym answer);
                  });
            };
      }

  -- label k alone
  with_label : (k : ℕ) → T (single_test j k single) → Quickly j a greedy single
  with_label k t = with_single (single_out j k single t)

  -- no label
  with_none : T (is_no_single j single) → Quickly j a greedy single
  with_none t = with_single (no_single_out j single t)

-- case A of document 01
pub case_a_quickly : Quickly case_a (First 9) (1 ∷ 1 ∷ 0 ∷ []) (0 ∷ 0 ∷ 1 ∷ [])
unfolding opens nines greedy_test single_test
case_a_quickly = with_label refl tt refl 2 tt

-- case C: the greedy list is the single one, and worth 7 where the best is 10
case_c_quickly : Quickly case_c (First 7) (1 ∷ 0 ∷ 0 ∷ []) (1 ∷ 0 ∷ 0 ∷ [])
unfolding opens nines greedy_test single_test
case_c_quickly = with_label refl tt refl 0 tt

-- worth 2 for 4 and 3 for 6, which are equal: the first takes the budget, and the second alone is worth more
equal_ratios : Quickly (quick_job 6 (4 ∷ 6 ∷ []) (2 ∷ 3 ∷ [])) (Second 3) (1 ∷ 0 ∷ []) (0 ∷ 1 ∷ [])
unfolding opens nines greedy_test single_test
equal_ratios = with_label refl tt refl 1 tt

-- the same labels, listed the other way
equal_ratios_turned : Quickly (quick_job 6 (6 ∷ 4 ∷ []) (3 ∷ 2 ∷ [])) (First 3) (1 ∷ 0 ∷ []) (1 ∷ 0 ∷ [])
unfolding opens nines greedy_test single_test
equal_ratios_turned = with_label refl tt refl 0 tt

-- worth 10 for 3 and 7 for 2, which are equal when cut to whole numbers: the second has the higher, and leaves 2 of 4
whole_ratios : Quickly (quick_job 4 (3 ∷ 2 ∷ []) (10 ∷ 7 ∷ [])) (Second 10) (0 ∷ 1 ∷ []) (1 ∷ 0 ∷ [])
unfolding opens nines greedy_test single_test
whole_ratios = with_label refl tt refl 0 tt

-- the label of the highest value has not the highest for its weight
by_ratio : Quickly (quick_job 10 (10 ∷ 1 ∷ 8 ∷ []) (10 ∷ 2 ∷ 9 ∷ [])) (First 11) (0 ∷ 1 ∷ 1 ∷ []) (1 ∷ 0 ∷ 0 ∷ [])
unfolding opens nines greedy_test single_test
by_ratio = with_label refl tt refl 0 tt

-- a label worth 0 is passed over, though it fits
passed_over : Quickly (quick_job 3 (1 ∷ 2 ∷ []) (0 ∷ 3 ∷ [])) (First 3) (0 ∷ 1 ∷ []) (0 ∷ 1 ∷ [])
unfolding opens nines greedy_test single_test
passed_over = with_label refl tt refl 1 tt

-- a label heavier than C comes first in the order, and the others are kept
too_heavy_first : Quickly (quick_job 5 (9 ∷ 2 ∷ 3 ∷ []) (90 ∷ 1 ∷ 2 ∷ [])) (First 3) (0 ∷ 1 ∷ 1 ∷ []) (0 ∷ 0 ∷ 1 ∷ [])
unfolding opens nines greedy_test single_test
too_heavy_first = with_label refl tt refl 2 tt

-- the second label in the order doesn't fit beside the first, and the third does
goes_on : Quickly (quick_job 5 (3 ∷ 4 ∷ 1 ∷ []) (9 ∷ 8 ∷ 1 ∷ [])) (First 10) (1 ∷ 0 ∷ 1 ∷ []) (1 ∷ 0 ∷ 0 ∷ [])
unfolding opens nines greedy_test single_test
goes_on = with_label refl tt refl 0 tt

-- a kept label and the next one weigh 2^32 together, which is no 0
heaviest : Quickly (quick_job 1 (1 ∷ 4_294_967_295 ∷ []) (5 ∷ most_value ∷ [])) (First 5) (1 ∷ 0 ∷ []) (1 ∷ 0 ∷ [])
unfolding opens nines greedy_test single_test
heaviest = with_label refl tt refl 0 tt

-- one label is worth more than the greedy list
pub single_wins : Quickly (quick_job 10 (1 ∷ 10 ∷ []) (2 ∷ 10 ∷ [])) (Second 10) (1 ∷ 0 ∷ []) (0 ∷ 1 ∷ [])
unfolding opens nines greedy_test single_test
single_wins = with_label refl tt refl 1 tt

-- the two lists differ and are both worth 5
tie_of_worth : Quickly (quick_job 4 (1 ∷ 2 ∷ 4 ∷ []) (2 ∷ 3 ∷ 5 ∷ [])) (First 5) (1 ∷ 1 ∷ 0 ∷ []) (0 ∷ 0 ∷ 1 ∷ [])
unfolding opens nines greedy_test single_test
tie_of_worth = with_label refl tt refl 2 tt

-- two labels of the highest value: the lower number alone, though the other is lighter
equal_values : Quickly (quick_job 2 (2 ∷ 1 ∷ []) (3 ∷ 3 ∷ [])) (First 3) (0 ∷ 1 ∷ []) (1 ∷ 0 ∷ [])
unfolding opens nines greedy_test single_test
equal_values = with_label refl tt refl 0 tt

-- the label of the highest value doesn't fit
highest_too_heavy : Quickly (quick_job 5 (6 ∷ 5 ∷ []) (9 ∷ 4 ∷ [])) (First 4) (0 ∷ 1 ∷ []) (0 ∷ 1 ∷ [])
unfolding opens nines greedy_test single_test
highest_too_heavy = with_label refl tt refl 1 tt

-- a label of weight C fits
just_fits : Quickly (quick_job 5 (5 ∷ []) (1 ∷ [])) (First 1) (1 ∷ []) (1 ∷ [])
unfolding opens nines greedy_test single_test
just_fits = with_label refl tt refl 0 tt

-- all values 0: no label in either list
all_worthless : Quickly (quick_job 3 (1 ∷ 2 ∷ []) (0 ∷ 0 ∷ [])) (First 0) (0 ∷ 0 ∷ []) (0 ∷ 0 ∷ [])
unfolding opens nines greedy_test is_no_single
all_worthless = with_none refl tt refl tt

-- what fits is worth 0, and what is worth something doesn't fit
worthless_or_heavy : Quickly (quick_job 3 (1 ∷ 9 ∷ []) (0 ∷ 5 ∷ [])) (First 0) (0 ∷ 0 ∷ []) (0 ∷ 0 ∷ [])
unfolding opens nines greedy_test is_no_single
worthless_or_heavy = with_none refl tt refl tt

-- no labels: nothing is written
no_labels : Quickly (quick_job 5 [] []) (First 0) [] []
unfolding opens nines greedy_test is_no_single
no_labels = with_none refl tt refl tt

-- no budget: no label fits
no_budget : Quickly (quick_job 0 (1 ∷ 2 ∷ []) (3 ∷ 4 ∷ [])) (First 0) (0 ∷ 0 ∷ []) (0 ∷ 0 ∷ [])
unfolding opens nines greedy_test is_no_single
no_budget = with_none refl tt refl tt

-- ---- little more than half of the best

-- three labels, two of which take the whole budget; the third weighs a unit more than each of them, and has two units more of value
abbrev pub near_half : Job
near_half = quick_job 1_000 (501 ∷ 500 ∷ 500 ∷ []) (502 ∷ 500 ∷ 500 ∷ [])

-- the quick answer keeps the third alone
pub half_quickly : Quickly near_half (First 502) (1 ∷ 0 ∷ 0 ∷ []) (1 ∷ 0 ∷ 0 ∷ [])
unfolding opens nines greedy_test single_test
half_quickly = with_label refl tt refl 0 tt

-- the best picks are the two, worth 1,000
pub half_best : BestPicks once near_half 3 1_000 (0 ∷ 1 ∷ 1 ∷ [])
unfolding opens picked
half_best = picked_out once near_half _ tt

-- ---- the answer's numbers

quick_numbers_lem : Computes quick_numbers (
    Refused 6 gives record { refusal = 6; which = 0; value = 0 }
    ∷ First 9 gives record { refusal = 0; which = 1; value = 9 }
    ∷ Second 10 gives record { refusal = 0; which = 2; value = 10 }
    ∷ []
    )
unfolding opens
quick_numbers_lem = refl

-- ---- refusals 3 to 6

-- of a job, with lists of these lengths
abbrev refused_with : Job × ℕ × ℕ → ℕ
refused_with (j, first-length, second-length) = quick_refusal j first-length second-length

-- 3: values that aren't one for each label
quick_3 : Computes refused_with (
    (quick_job 1 (1 ∷ 1 ∷ []) (1 ∷ []), 2, 2) gives 3  -- a value short
    ∷ (quick_job 1 (1 ∷ []) (1 ∷ 1 ∷ []), 2, 2) gives 3  -- a value too many
    ∷ (quick_job 1 [] (1 ∷ []), 1, 1) gives 3  -- a value and no label
    ∷ (quick_job (suc most_budget) (1 ∷ []) [], 1, 1) gives 3  -- 3 before 4
    ∷ (quick_job 1 (0 ∷ []) [], 1, 1) gives 3  -- 3 before 5
    ∷ (quick_job 1 (1 ∷ []) [], 0, 0) gives 3  -- 3 before 6
    ∷ (quick_job (suc most_budget) (0 ∷ []) (suc most_value ∷ 1 ∷ []), 0, 0) gives 3  -- 3 before all of them
    ∷ []
    )
unfolding opens
quick_3 = refl

-- 4: n and C
quick_4 : Computes refused_with (
    (quick_job most_budget (replicate most_labels 1) (replicate most_labels 0), most_labels, most_labels) gives 0  -- both at their bounds
    ∷ (quick_job 0 (replicate (suc most_labels) 1) (replicate (suc most_labels) 0), suc most_labels, suc most_labels) gives 4  -- one label more
    ∷ (quick_job (suc most_budget) [] [], 0, 0) gives 4  -- one unit more
    ∷ (quick_job (suc most_budget) (0 ∷ []) (1 ∷ []), 1, 1) gives 4  -- 4 before 5
    ∷ (quick_job (suc most_budget) (1 ∷ []) (1 ∷ []), 0, 0) gives 4  -- 4 before 6
    ∷ []
    )
unfolding opens
quick_4 = refl

-- 5: weights and values
quick_5 : Computes refused_with (
    (quick_job 1 (4_294_967_295 ∷ 1 ∷ []) (most_value ∷ 0 ∷ []), 2, 2) gives 0  -- the greatest and the least
    ∷ (quick_job 1 (1 ∷ []) (suc most_value ∷ []), 1, 1) gives 5  -- a value above
    ∷ (quick_job 1 (1 ∷ 1 ∷ []) (1 ∷ suc most_value ∷ []), 2, 2) gives 5  -- the last value above
    ∷ (quick_job 1 (0 ∷ []) (1 ∷ []), 1, 1) gives 5  -- weight 0
    ∷ (quick_job 1 (1 ∷ 0 ∷ []) (1 ∷ 1 ∷ []), 2, 2) gives 5  -- the last weight 0
    ∷ (quick_job 1 (0 ∷ []) (1 ∷ []), 0, 0) gives 5  -- 5 before 6
    ∷ []
    )
unfolding opens
quick_5 = refl

-- 6: either list
quick_6 : Computes refused_with (
    (quick_job 1 (1 ∷ 1 ∷ []) (1 ∷ 1 ∷ []), 2, 2) gives 0  -- just long enough
    ∷ (quick_job 1 (1 ∷ 1 ∷ []) (1 ∷ 1 ∷ []), 9, 7) gives 0  -- longer
    ∷ (quick_job 1 (1 ∷ 1 ∷ []) (1 ∷ 1 ∷ []), 1, 9) gives 6  -- the first a place short
    ∷ (quick_job 1 (1 ∷ 1 ∷ []) (1 ∷ 1 ∷ []), 9, 1) gives 6  -- the second a place short
    ∷ (quick_job 1 (1 ∷ 1 ∷ []) (1 ∷ 1 ∷ []), 1, 1) gives 6  -- both
    ∷ (quick_job 1 (1 ∷ []) (1 ∷ []), 1, 0) gives 6  -- no second list
    ∷ (quick_job 1 [] [], 0, 0) gives 0  -- no labels
    ∷ []
    )
unfolding opens
quick_6 = refl
