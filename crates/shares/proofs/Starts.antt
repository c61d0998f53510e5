-- Kind 7: the starts and the shares, as lists with a number for each label.
-- Assumes nothing.
use mathlib.Core.Path.{◌≡◌, refl, sym, ap, ◌∙◌}
use Prim.Native.Nat.{ℕ, zero, suc, ◌+◌, ◌-◌, ◌*◌, ◌/◌, ◌%◌, ◌≤◌, ◌<◌, max, min}
use native.Mathlib.Nat.{div-le_of_le-mul, mul-le-mul_left, mul_comm, mod-lt}
use native.Mathlib.Numerals.{add-one}
use native.Mathlib.Omega.{arith}
use mathlib.Core.List.{List, [], ◌∷◌, map}
use mathlib.Core.Bool.{Bool}
use lib.Dec.{ltb}
use mir.Val.{bool_byte}
use lib.ListN.{length, take}
use lib.Seq.{ext_get_or}
use borrow.Author.Tests.{lt-ltb, le-ltb}
use Rattle.meaning.specs.Lists.{at, sum, up_to, if}
use Rattle.meaning.specs.Job.{Job, job_of, labels}
use Rattle.meaning.specs.Shares.{start_of, remainder_of, spare_of, rank_of, share_of, shares_of}
use Rattle.meaning.proofs.UpTo.{made_at, made_length}
use Rattle.meaning.proofs.Loops.{sum_more, sum_done}
use Rattle.meaning.proofs.SharesSum.{sum_over, starts_within, shares_sum}
use Rattle.meaning.proofs.Tally.{one_or_none}
use Rattle.rows.proofs.Stores.{by}
use Rattle.shares.specs.Borders.{claims_job, Started, Reaches}

-- ---- tests and lists

-- the first members sum to no more than all
front_within : (xs : List ℕ) (i : ℕ) → sum (take i xs) ≤ sum xs
unfolding sum
front_within xs zero = omega arith
front_within [] (suc i) = omega arith
front_within (x ∷ xs) (suc i) = omega (arith, front_within xs i)

-- no member is more than the sum
pub member_within : (xs : List ℕ) (i : ℕ) → i < length xs → at xs i ≤ sum xs
member_within xs i h = omega (arith, sum_more xs i h, front_within xs (suc i))

-- a list that holds a rule's number at each place
made_of : (f : ℕ → ℕ) (n : ℕ) (xs : List ℕ) → length xs ≡ n → ((i : ℕ) → i < n → at xs i ≡ f i) → xs ≡ map f (up_to n)
made_of f n xs long each =
    ext_get_or 0 xs (map f (up_to n)) (long ∙ sym (made_length f n)) (λ i h. each i (omega arith) ∙ sym (made_at f n i (omega arith)))

-- ---- starts

-- the whole part of C times a claim over S is no more than C
pub start_within : (budget claim claimed : ℕ) → claim ≤ claimed → budget * claim / claimed ≤ budget
start_within budget claim claimed h = div-le_of_le-mul claimed (omega (arith, mul-le-mul_left budget h, mul_comm budget claimed))

-- what is kept of a job of kind 7: its budget, its claims and S
pub record Holds (j : Job) (budget : ℕ) (claims : List ℕ) (claimed : ℕ) : Type 0 where
  pub budget_is : budget ≡ j.budget
  pub claims_are : claims ≡ j.weights
  pub summed : claimed ≡ sum j.weights
  pub positive : 0 < sum j.weights

pub holds : (j : Job) {budget : ℕ} {claims : List ℕ} {claimed : ℕ} → claims_job budget claims ≡ j → (claimed ≡ sum claims) × (0 < claimed)
    → Holds j budget claims claimed
unfolding job_of
holds j {budget} {claims} {claimed} is (summed, positive) =
    let kept : claims ≡ j.weights = ap (λ (k : Job). k.weights) is in
    let all : claimed ≡ sum j.weights = summed ∙ ap sum kept in
    record { budget_is = ap (λ (k : Job). k.budget) is; claims_are = kept; summed = all; positive = omega arith }

-- the product of C and claim i over S: its whole part, and what it leaves
pub over_claimed : (j : Job) (i product claim claimed : ℕ) → product ≡ j.budget * claim → claim ≡ at j.weights i → claimed ≡ sum j.weights
    → (product / claimed ≡ start_of j i) × (product % claimed ≡ remainder_of j i)
unfolding start_of remainder_of
over_claimed j i product claim claimed made read summed = (rw (made, read, summed), rw (made, read, summed))

-- by what is kept of the job
pub over_kept : (j : Job) {budget : ℕ} {claims : List ℕ} {claimed : ℕ} → Holds j budget claims claimed → (i product claim : ℕ)
    → product ≡ budget * claim → claim ≡ at claims i → (product / claimed ≡ start_of j i) × (product % claimed ≡ remainder_of j i)
over_kept j {claimed = claimed} h i product claim made read =
    over_claimed j i product claim claimed (rw h.budget_is at made) (rw h.claims_are at read) h.summed

-- a remainder is below S
pub remainder_within : (j : Job) (i : ℕ) → 0 < sum j.weights → remainder_of j i < sum j.weights
unfolding remainder_of
remainder_within j i pos = mod-lt (j.budget * at j.weights i) pos

module _ (j : Job) where
  -- every start
  abbrev pub starts : List ℕ
  starts = map (start_of j) (up_to (labels j))

  -- one start less
  pub spare_step : 0 < sum j.weights → (i start spare : ℕ) → i < labels j → start ≡ start_of j i → spare + sum (take i starts) ≡ j.budget
      → (start ≤ spare) × (spare - start + sum (take (i + 1) starts) ≡ j.budget)
  unfolding sum_over labels
  spare_step pos i start spare h e rest =
      let more : sum (take (i + 1) starts) ≡ sum (take i starts) + start =
      rw add-one (sum_more starts i (omega (arith, made_length (start_of j) (labels j))) ∙ omega (arith, made_at (start_of j) (labels j) i h)) in
      let fits : start ≤ spare = omega (arith, front_within starts (i + 1), starts_within j pos) in
      (fits, omega arith)

  -- what one start makes of the spare, and what the division leaves
  pub record Begun (i start rest spare : ℕ) : Type 0 where
    pub start_is : start ≡ start_of j i
    pub fits : start ≤ spare
    pub less : spare - start + sum (take (i + 1) starts) ≡ j.budget
    pub rest_is : rest ≡ remainder_of j i
    pub below : rest < sum j.weights

  pub begun : {budget : ℕ} {claims : List ℕ} {claimed : ℕ} → Holds j budget claims claimed → (i product claim start rest spare : ℕ) → i < labels j
      → product ≡ budget * claim → claim ≡ at claims i → start ≡ product / claimed → rest ≡ product % claimed
      → spare + sum (take i starts) ≡ j.budget → Begun i start rest spare
  begun h i product claim start rest spare inside made read whole_part left_over less =
      let (whole_is, left_is) = over_kept j h i product claim made read in
      let (fits, after) = spare_step h.positive i start spare inside (whole_part ∙ whole_is) less in
      record {
        start_is = whole_part ∙ whole_is;
        fits = fits;
        less = after;
        rest_is = left_over ∙ left_is;
        below = rw (left_over, left_is) (remainder_within j i h.positive);
      }

  -- every start less
  pub spare_done : (i spare : ℕ) → labels j ≤ i → spare + sum (take i starts) ≡ j.budget → spare ≡ spare_of j
  unfolding spare_of
  spare_done i spare h rest = omega (arith, sum_done starts (sum (take i starts)) i (omega (arith, made_length (start_of j) (labels j))) refl)

  -- ---- shares

  -- a share is no more than C
  pub share_within : 0 < sum j.weights → (i : ℕ) → i < labels j → share_of j i ≤ j.budget
  unfolding shares_of
  share_within pos i h =
      omega (arith, member_within (shares_of j) i (omega (arith, made_length (share_of j) (labels j))), shares_sum j pos, made_at (share_of j) (labels j) i h)

  pub shares_made : (xs : List ℕ) → length xs ≡ labels j → ((i : ℕ) → i < labels j → at xs i ≡ share_of j i) → xs ≡ shares_of j
  unfolding shares_of
  shares_made = made_of (share_of j) (labels j)

  -- with no unit to give, the starts are the shares
  pub none_spare : (claimed : ℕ) (xs : List ℕ) → spare_of j ≡ 0 → Started j claimed xs → xs ≡ shares_of j
  unfolding share_of if
  none_spare claimed xs none s =
      shares_made xs s.long
      (λ i h. s.each i h ∙ rw (le-ltb (rank_of j i) (spare_of j) (omega arith)) (omega arith))

  -- a start, and a unit where the label gets one
  pub share_given : (i start : ℕ) (b : Bool) → start ≡ start_of j i → b ≡ ltb (rank_of j i) (spare_of j) → start + bool_byte b ≡ share_of j i
  unfolding share_of
  share_given i start b e f = rw (one_or_none b, f, e)

-- ---- how far the remainders between two numbers reach

-- one more for the least, and one more for the greatest
lowered_least : (least rest low : ℕ) → low ≤ least
    → let l = if (ltb rest low) least (min least rest) in (low ≤ l) × (l ≤ least) × (low ≤ rest → l ≤ rest)
unfolding if
lowered_least least rest low h =
    by rest low (λ under. rw (lt-ltb rest low under) (h, omega arith, λ g. absurd (omega arith)))
    (λ over. rw (le-ltb rest low over) (omega arith, omega arith, λ g. omega arith))

raised_greatest : (greatest rest high : ℕ) → greatest < high
    → let g = if (ltb rest high) (max greatest rest) greatest in (g < high) × (greatest ≤ g) × (rest < high → rest ≤ g)
unfolding if
raised_greatest greatest rest high h =
    by rest high (λ under. rw (lt-ltb rest high under) (omega arith, omega arith, λ g. omega arith))
    (λ over. rw (le-ltb rest high over) (h, omega arith, λ g. absurd (omega arith)))

-- of no label they reach anywhere
pub reaches_none : (j : Job) (low high : ℕ) → low < high → Reaches j 0 low high high low
reaches_none j low high h = record { not_below = omega arith; within = h; above = λ i l. absurd (omega arith); below = λ i l. absurd (omega arith) }

-- one label more
pub reaches_more : (j : Job) (i low high least greatest rest : ℕ) → rest ≡ remainder_of j i → Reaches j i low high least greatest
    → Reaches j (i + 1) low high (if (ltb rest low) least (min least rest)) (if (ltb rest high) (max greatest rest) greatest)
reaches_more j i low high least greatest rest e d =
    let (from, less, covers) = lowered_least least rest low d.not_below in
    let (to, more, covered) = raised_greatest greatest rest high d.within in
    let same : (k : ℕ) → k < i + 1 → i ≤ k → remainder_of j k ≡ rest = λ k l b. let here : k ≡ i = omega arith in ap (remainder_of j) here ∙ sym e in
    record {
      not_below = from;
      within = to;
      above = λ k l g. by k i (λ b. omega (arith, d.above k b g, less)) (λ b. omega (arith, same k l b, covers (omega (arith, same k l b))));
      below = λ k l g. by k i (λ b. omega (arith, d.below k b g, more)) (λ b. omega (arith, same k l b, covered (omega (arith, same k l b))));
    }

-- one more of all remainders, from 0 on and below S
pub reaches_all : (j : Job) (i claimed least greatest rest : ℕ) → rest ≡ remainder_of j i → rest < claimed → Reaches j i 0 claimed least greatest
    → Reaches j (i + 1) 0 claimed (min least rest) (max greatest rest)
unfolding if
reaches_all j i claimed least greatest rest e h d =
    rw (le-ltb rest 0 (omega arith), lt-ltb rest claimed h) at (reaches_more j i 0 claimed least greatest rest e d)
