-- What the loops over labels go by: what greed takes, and the label of highest value so far.
-- Assumes nothing.
use Rattle.std.specs.Prelude.{◌≡◌, ℕ, ◌≤◌, ◌<◌, Bool, ◌&&◌, List, leb, ltb}
use Rattle.meaning.specs.Lists.{at}
use Rattle.meaning.specs.Job.{Job}

-- label i is worth something, and fits into what is left of the budget
unfoldable pub takes : List ℕ → List ℕ → ℕ → ℕ → Bool
takes values weights left i = ltb 0 (at values i) && leb (at weights i) left

-- of the first i labels that fit, `label` has the highest value and is the first with it; or all are worth 0, and `label` is none
pub data Found (j : Job) (i label value : ℕ) : Type 0 where
  some_label : label < i → at j.weights label ≤ j.budget → value ≡ at j.values label → 0 < value
      → ((m : ℕ) → m < i → at j.weights m ≤ j.budget → at j.values m ≤ value)
      → ((m : ℕ) → m < label → at j.weights m ≤ j.budget → at j.values m < value) → Found j i label value
  nothing : value ≡ 0 → ((m : ℕ) → m < i → at j.weights m ≤ j.budget → at j.values m ≡ 0) → Found j i label value
