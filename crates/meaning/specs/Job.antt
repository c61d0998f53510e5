-- A job and its kind.
-- Assumes nothing.
use Rattle.std.proofs.Math.Option.{Option, none}
use Rattle.std.specs.Prelude.{ℕ, zero, suc, Bool, List, [], ◌∷◌, eqb, length}
use Rattle.std.proofs.Math.ListN.{get_elem?}
use Rattle.meaning.specs.Lists.{at, if}

-- the number of a job's kind, its budget C, kind 9's number q, and its lists
pub record Job : Type 0 where
  pub kind_number : ℕ
  pub budget : ℕ
  pub q : ℕ
  pub weights : List ℕ
  pub values : List ℕ
  pub copies : List ℕ

-- the kind whose jobs have a q: 9
unfoldable pub has_q : ℕ → Bool
has_q kind = eqb kind 9

-- how many budgets a job of a kind has: C and q, or C alone
unfoldable pub budget_count : ℕ → ℕ
budget_count kind = if (has_q kind) 2 1

-- the job of a kind, its budgets (as in the section of that name: C, and in kind 9 q, which other kinds ignore) and its lists. Every job is made here
unfoldable pub job_of : ℕ → List ℕ → List ℕ → List ℕ → List ℕ → Job
job_of kind budgets weights values copies = record {
  kind_number = kind;
  budget = at budgets 0;
  q = if (has_q kind) (at budgets 1) 0;
  weights = weights;
  values = values;
  copies = copies;
}

-- a job's budgets
unfoldable pub budgets_of : Job → List ℕ
budgets_of j = j.budget ∷ if (has_q j.kind_number) (j.q ∷ []) []

-- n: how many labels there are
unfoldable pub labels : Job → ℕ
labels j = length j.weights

-- the three knapsacks: each label at most once; label i at most copies[i] times; any number of each
pub data Knapsack : Type 0 where
  once limited free : Knapsack

-- 1 to 3 are knapsacks, 4 sums, 5 and 6 blocks (the fewest, the ways), 7 shares, 8 the labels behind a sum, 9 a stated share of the best
pub data Kind : Type 0 where
  packing : Knapsack → Kind
  subset_sums fewest_blocks block_ways sharing labels_behind stated_share : Kind

-- kinds 1 to 9
unfoldable pub all_kinds : List Kind
all_kinds =
    packing once ∷ packing limited ∷ packing free ∷ subset_sums ∷ fewest_blocks ∷ block_ways ∷ sharing ∷ labels_behind ∷ stated_share ∷ []

-- the kind of a number; 0, and every number above the last kind's, is no kind
unfoldable pub kind_of : ℕ → Option Kind
kind_of zero = none
kind_of (suc k) = get_elem? all_kinds k
