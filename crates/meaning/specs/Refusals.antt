-- Refusals 3 to 6 and 9: the rules of each kind, over the numbers of Bounds; the tests, by refusal number; and the lowest number that applies.
-- Bytes says which job bytes can't be read, which is refusal 1. 2, 7 and 8 are given in Solved; 2 for the checker and 11 to 15 in
-- Certificates; the writer's 6 in Writer.
-- That a number is one of 32 bits is said by the type of the slice, or by the bytes, that it comes from.
-- Assumes nothing.
use Rattle.std.specs.Prelude.{ℕ, suc, Bool, true, false, ◌&&◌, ◌||◌, not, List, [], ◌∷◌, leb, ltb, eqb, length}
use Rattle.meaning.specs.Bounds.{most_labels, most_sizes, most_claims, most_budget, most_shared, most_value, most_copies, least_copies, least_q, most_q}
use Rattle.meaning.specs.Lists.{sum, every, if}
use Rattle.meaning.specs.Job.{Job, labels, Knapsack, once, limited, free, Kind, packing, subset_sums, fewest_blocks, block_ways, sharing}
use Rattle.meaning.specs.Job.{labels_behind, stated_share}
use Rattle.meaning.specs.Lent.{Lent, Room}

-- ---- rules on the numbers of a list

-- weights: 1 or more
unfoldable pub positive : List ℕ → Bool
positive xs = every (leb 1) xs

-- strictly ascending, and none below `low`
unfoldable pub ascending_from : ℕ → List ℕ → Bool
ascending_from low [] = true
ascending_from low (x ∷ xs) = leb low x && ascending_from (suc x) xs

-- claims: any
unfoldable pub anything : List ℕ → Bool
anything xs = true

-- every number from `low` to `high`
unfoldable pub each_within : ℕ → ℕ → List ℕ → Bool
each_within low high xs = every (λ x. leb low x && leb x high) xs

-- ---- the rules of a kind

-- which lists it uses, its bounds on n and C, its rule on weights, its least value, whether the weights' sum S has to be positive, whether it has a q
pub record Rules : Type 0 where
  pub uses_values : Bool
  pub uses_copies : Bool
  pub label_bound : ℕ
  pub budget_bound : ℕ
  pub weight_rule : List ℕ → Bool
  pub value_floor : ℕ
  pub needs_sum : Bool
  pub uses_q : Bool

-- of kinds 1 to 3 only kind 2 uses copies
unfoldable pub has_copies : Knapsack → Bool
has_copies once = false
has_copies limited = true
has_copies free = false

-- values from 0; in kind 3, from 1
unfoldable pub least_value : Knapsack → ℕ
least_value once = 0
least_value limited = 0
least_value free = 1

-- kinds 1 to 3; and 9, which is kind 1 with a q
unfoldable pub knapsack_rules : Knapsack → Bool → Rules
knapsack_rules k uses_q = record {
  uses_values = true;
  uses_copies = has_copies k;
  label_bound = most_labels;
  budget_bound = most_budget;
  weight_rule = positive;
  value_floor = least_value k;
  needs_sum = false;
  uses_q = uses_q;
}

-- kinds 4 to 8 use weights alone
unfoldable pub weight_rules : ℕ → ℕ → (List ℕ → Bool) → Bool → Rules
weight_rules label_bound budget_bound weight_rule needs_sum = record {
  uses_values = false;
  uses_copies = false;
  label_bound = label_bound;
  budget_bound = budget_bound;
  weight_rule = weight_rule;
  value_floor = 0;
  needs_sum = needs_sum;
  uses_q = false;
}

-- the rules of each kind
unfoldable pub rules_of : Kind → Rules
rules_of (packing k) = knapsack_rules k false
rules_of subset_sums = weight_rules most_labels most_budget positive false
rules_of fewest_blocks = weight_rules most_sizes most_budget (ascending_from 1) false
rules_of block_ways = weight_rules most_sizes most_budget (ascending_from 1) false
rules_of sharing = weight_rules most_claims most_shared anything true
rules_of labels_behind = weight_rules most_labels most_budget positive false
rules_of stated_share = knapsack_rules once true

-- ---- the tests, by refusal number

-- 3: a used list has n members, an unused one none
unfoldable pub lists_fit : Rules → Job → Bool
lists_fit r j =
    eqb (length j.values) (if r.uses_values (labels j) 0)
    && eqb (length j.copies) (if r.uses_copies (labels j) 0)

-- 4: n and C are within their bounds
unfoldable pub bounds_fit : Rules → Job → Bool
bounds_fit r j = leb (labels j) r.label_bound && leb j.budget r.budget_bound

-- q is from 2 to 100, in a kind that has one
unfoldable pub q_fits : Rules → Job → Bool
q_fits r j = not r.uses_q || (leb least_q j.q && leb j.q most_q)

-- 5: every weight, value and copies number keeps its rule, and so does q
unfoldable pub numbers_fit : Rules → Job → Bool
numbers_fit r j =
    r.weight_rule j.weights
    && each_within r.value_floor most_value j.values
    && each_within least_copies most_copies j.copies
    && q_fits r j

-- 6: no lent slice is too short
unfoldable pub room_fits : Room → Lent → Bool
room_fits r lent =
    leb r.cells (length lent.cells) && leb r.words (length lent.words) && leb r.picks (length lent.picks)

-- 9: kind 7 needs a positive S
unfoldable pub claims_fit : Rules → Job → Bool
claims_fit r j = not r.needs_sum || ltb 0 (sum j.weights)

-- ---- the lowest number that applies; 0 stands for no refusal

-- 3 to 5, or else what comes later
unfoldable pub job_refusal : Rules → Job → ℕ → ℕ
job_refusal r j later =
    if (not (lists_fit r j)) 3
    (if (not (bounds_fit r j)) 4
    (if (not (numbers_fit r j)) 5 later))

-- 3 to 6 and 9, for a kind that needs this room
unfoldable pub kind_refusal : Room → Kind → Job → Lent → ℕ
kind_refusal room k j lent =
    job_refusal (rules_of k) j
    (if (not (room_fits room lent)) 6
    (if (not (claims_fit (rules_of k) j)) 9 0))
