-- The quick answer for kind 1: the greedy list, the single label of highest value that fits, and the worthier of the two. 'Best' isn't asked of it:
-- twice its value is at least the best value.
-- Assumes nothing.
use Rattle.std.specs.Prelude.{◌≡◌, ℕ, zero, suc, ◌+◌, ◌*◌, ◌≤◌, ◌<◌, Bool, ◌&&◌, ◌||◌, not, List, [], ◌∷◌, map, leb, ltb, eqb, length}
use Rattle.meaning.specs.Hands.{Quick}
use Rattle.meaning.specs.Hands as Hands
use Rattle.meaning.specs.Lists.{at, total, up_to, if}
use Rattle.meaning.specs.Slices.{Holds}
use Rattle.meaning.specs.Job.{Job, job_of, labels, once, packing}
use Rattle.meaning.specs.Refusals.{rules_of, job_refusal}
use Rattle.meaning.specs.Answers.{quick_numbers}

-- the kind 1 job with this budget and these lists
abbrev pub quick_job : ℕ → List ℕ → List ℕ → Job
quick_job budget weights values = job_of 1 (budget ∷ []) weights values []

-- ---- the greedy list

-- label i goes before label m: its value per weight is higher, or equal and its number is lower. Of two quotients the products tell which is higher
unfoldable pub goes_before : List ℕ → List ℕ → ℕ → ℕ → Bool
goes_before values weights i m =
    ltb (at values m * at weights i) (at values i * at weights m) || (eqb (at values i * at weights m) (at values m * at weights i) && ltb i m)

-- of the labels that p keeps, those that go before label i
unfoldable pub kept_before : Job → List ℕ → ℕ → List ℕ
kept_before j p i = map (λ m. if (goes_before j.values j.weights m i) (at p m) 0) (up_to (labels j))

-- label i isn't passed over, being worth something, and still fits: into what these leave of the budget
unfoldable pub still_fits : Job → List ℕ → ℕ → Bool
still_fits j p i = ltb 0 (at j.values i) && leb (total j.weights (kept_before j p i) + at j.weights i) j.budget

-- p is the greedy list: it keeps just these labels, each once
pub record Greedy (j : Job) (p : List ℕ) : Type 0 where
  pub one_each : length p ≡ labels j
  pub each : (i : ℕ) → i < labels j → at p i ≡ if (still_fits j p i) 1 0

-- ---- the single label

-- label i fits by itself
abbrev pub FitsAlone : Job → ℕ → Type 0
FitsAlone j i = at j.weights i ≤ j.budget

-- of the labels that fit, label k has the highest value, which is not 0, and is the first that has it
pub record Highest (j : Job) (k : ℕ) : Type 0 where
  pub label : k < labels j
  pub fits : FitsAlone j k
  pub worth : 0 < at j.values k
  pub highest : (i : ℕ) → i < labels j → FitsAlone j i → at j.values i ≤ at j.values k
  pub first : (i : ℕ) → i < k → FitsAlone j i → at j.values i < at j.values k

-- s keeps label k of n, once, and no other
pub record KeepsOnly (n k : ℕ) (s : List ℕ) : Type 0 where
  pub one_each : length s ≡ n
  pub once_kept : at s k ≡ 1
  pub no_other : (i : ℕ) → i < n → ¬ (i ≡ k) → at s i ≡ 0

-- s keeps none of n labels
pub record KeepsNone (n : ℕ) (s : List ℕ) : Type 0 where
  pub one_each : length s ≡ n
  pub none_kept : (i : ℕ) → i < n → at s i ≡ 0

-- every label that fits is worth 0
unfoldable pub Worthless : Job → Type 0
Worthless j = (i : ℕ) → i < labels j → FitsAlone j i → at j.values i ≡ 0

-- s is the single list: that label, or none where the best is 0
pub data Single (j : Job) (s : List ℕ) : Type 0 where
  one_label : (k : ℕ) → Highest j k → KeepsOnly (labels j) k s → Single j s
  no_label : Worthless j → KeepsNone (labels j) s → Single j s

-- ---- both lists, for every input

-- refusals 3 to 6, the lowest that applies, where the two lists have these lengths; 0 for none. The rules are kind 1's, and 6 is given if either list
-- is short
unfoldable pub quick_refusal : Job → ℕ → ℕ → ℕ
quick_refusal j first-length second-length =
    job_refusal (rules_of (packing once)) j (if (not (leb (labels j) first-length && leb (labels j) second-length)) 6 0)

-- the worthier of the two lists, and what it is worth; on a tie the greedy one
unfoldable pub worthier : Job → List ℕ → List ℕ → Quick
worthier j greedy single =
    if (ltb (total j.values greedy) (total j.values single)) (Hands.Second (total j.values single)) (Hands.First (total j.values greedy))

-- a job that isn't refused: the first n places of the first list get the greedy list, those of the second the single one, and past them stands what
-- stood there; the answer says which is the worthier
pub record BothFilled (j : Job) (first second : List ℕ) (a : Quick) (first' second' : List ℕ) : Type 0 where
  pub greedy : List ℕ
  pub single : List ℕ
  pub is_greedy : Greedy j greedy
  pub is_single : Single j single
  pub first_holds : Holds greedy first first'
  pub second_holds : Holds single second second'
  pub numbers : quick_numbers a ≡ quick_numbers (worthier j greedy single)

-- a job that is refused with r: nothing is written
pub record NoneFilled (r : ℕ) (first second : List ℕ) (a : Quick) (first' second' : List ℕ) : Type 0 where
  pub numbers : quick_numbers a ≡ quick_numbers (Hands.Refused r)
  pub first_kept : first' ≡ first
  pub second_kept : second' ≡ second

-- by the refusal number, 0 for none
unfoldable pub FilledAs : ℕ → Job → List ℕ → List ℕ → Quick → List ℕ → List ℕ → Type 0
FilledAs zero j first second a first' second' = BothFilled j first second a first' second'
FilledAs (suc r) j first second a first' second' = NoneFilled (suc r) first second a first' second'

-- the promise of a call that fills the two lists: the answer a, and the lists as they are after it
pub record Filled (j : Job) (first second : List ℕ) (a : Quick) (first' second' : List ℕ) : Type 0 where
  pub kept : FilledAs (quick_refusal j (length first) (length second)) j first second a first' second'

-- ---- the list that is handed back, and where it stands

-- the worthier list p stands where the first lent list does and is the greedy one, or where the second does and is the single one
pub data Worthier (j : Job) (first second place : ℕ × ℕ) (p : List ℕ) : Type 0 where
  the_first : (single : List ℕ) → place ≡ first → Greedy j p → Single j single → total j.values single ≤ total j.values p
      → Worthier j first second place p
  the_second : (greedy : List ℕ) → place ≡ second → Single j p → Greedy j greedy → total j.values greedy < total j.values p
      → Worthier j first second place p

-- an empty part of the first
pub record EmptyPart (first place : ℕ × ℕ) (p : List ℕ) : Type 0 where
  pub of_first : place ≡ first
  pub empty : p ≡ []

-- by the refusal number, 0 for none
unfoldable pub PickedAs : ℕ → Job → ℕ × ℕ → ℕ × ℕ → ℕ × ℕ → List ℕ → Type 0
PickedAs zero j first second place p = Worthier j first second place p
PickedAs (suc r) j first second place p = EmptyPart first place p

-- the promise of a call that hands back the worthier of two lists, which have these lengths and stand at these places
pub record Picked (j : Job) (first-length second-length : ℕ) (first second place : ℕ × ℕ) (p : List ℕ) : Type 0 where
  pub kept : PickedAs (quick_refusal j first-length second-length) j first second place p
