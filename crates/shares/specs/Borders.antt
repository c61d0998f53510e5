-- Kind 7: the starts as they are kept, and the border that parts the labels that get a spare unit from the others.
-- Assumes nothing.
use Rattle.std.specs.Prelude.{◌≡◌, ℕ, ◌+◌, ◌≤◌, ◌<◌, Bool, List, [], ◌∷◌, leb, ltb, eqb, length}
use Rattle.meaning.specs.Lists.{at, sum, up_to, if, tally}
use Rattle.meaning.specs.Job.{Job, labels}
use Rattle.meaning.specs.Shares.{start_of, remainder_of, spare_of}
use Rattle.numbers.specs.Lists.{weights_from}

-- the job of kind 7 with this budget and these claims
abbrev pub claims_job : ℕ → List ℕ → Job
claims_job budget claims = weights_from 7 (budget ∷ []) claims

-- what a border is found by: `claimed` is S, which is positive, and `starts` holds each label's start
pub record Started (j : Job) (claimed : ℕ) (starts : List ℕ) : Type 0 where
  pub summed : claimed ≡ sum j.weights
  pub positive : 0 < claimed
  pub long : length starts ≡ labels j
  pub each : (i : ℕ) → i < labels j → at starts i ≡ start_of j i

-- of the remainders of the first n labels, those that are not below `low` and below `high` reach from `least` to `greatest`
pub record Reaches (j : Job) (n low high least greatest : ℕ) : Type 0 where
  pub not_below : low ≤ least
  pub within : greatest < high
  pub above : (i : ℕ) → i < n → low ≤ remainder_of j i → least ≤ remainder_of j i
  pub below : (i : ℕ) → i < n → remainder_of j i < high → remainder_of j i ≤ greatest

-- what the starts leave: `spare` units, and remainders from `least` to `greatest`, all below S
pub record Leaves (j : Job) (claimed : ℕ) (starts : List ℕ) (spare least greatest : ℕ) : Type 0 where
  pub started : Started j claimed starts
  pub units : spare ≡ spare_of j
  pub reach : Reaches j (labels j) 0 claimed least greatest

-- a label with this remainder stands at a border or before it. A border is a remainder too, and the larger goes first
unfoldable pub ahead_of : ℕ → ℕ → Bool
ahead_of remainder border = leb border remainder

-- label i of a job does
abbrev pub ahead_in : Job → ℕ → ℕ → Bool
ahead_in j border i = ahead_of (remainder_of j i) border

-- how many labels do
unfoldable pub count_of : Job → ℕ → ℕ
count_of j border = tally (ahead_in j border) (up_to (labels j))

-- label i stands next behind a border
abbrev pub behind_in : Job → ℕ → ℕ → Bool
behind_in j border i = eqb (remainder_of j i + 1) border

-- how many of the first i labels do
unfoldable pub behind_of : Job → ℕ → ℕ → ℕ
behind_of j border i = tally (behind_in j border) (up_to i)

-- a label with this remainder gets a unit, where `seen` labels with lower numbers stand next behind the border: as long as they are fewer than the
-- units left, it counts as one further ahead
unfoldable pub gets_of : ℕ → ℕ → ℕ → ℕ → Bool
gets_of remainder border seen left = ahead_of (remainder + if (ltb seen left) 1 0) border

-- the units don't run out at a lower border: as many labels as there are units, or more, stand at it or before it
pub record NoLower (j : Job) (border : ℕ) : Type 0 where
  pub enough : (lower : ℕ) → lower < border → spare_of j ≤ count_of j lower

-- the units run out at a border: each label at it or before it gets one, and `left` are left for those next behind it
pub record RunOut (j : Job) (border left : ℕ) : Type 0 where
  pub whole : count_of j border + left ≡ spare_of j
  pub no_lower : NoLower j border
