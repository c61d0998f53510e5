-- What a job keeps that isn't refused; and the greatest possible value of a knapsack fits 32 bits.
-- Assumes nothing.
use mathlib.Core.Path.{◌≡◌, ◌∙◌, refl}
use Prim.Native.Nat.{◌*◌, ◌+◌, ◌<◌, ◌≤◌, suc, zero, zero-le, ℕ}
use native.Mathlib.Nat.{le_of_eq, le_of_suc-le-suc, le_trans, not-suc-le-zero, mul-add}
use native.Mathlib.Nat.{mul-le-mul, mul-le-mul_left, mul-le-mul_right, one-mul, suc_inj}
use native.Mathlib.Omega.{arith}
use mathlib.Core.Bool.{Bool, ◌&&◌, false, not, true}
use mathlib.Core.List.{List, [], ◌∷◌}
use lib.Dec.{T, eqb, leb}
use lib.ListN.{length}
use mir.Facts.{and_yes, eqb_yes, leb_yes}
use Rattle.meaning.specs.Lists.{at, every, if, total}
use Rattle.meaning.specs.Job.{Job, Knapsack, once, limited, free, packing, labels, Kind, job_of}
use Rattle.meaning.specs.Lent.{cell_count, Lent, Room}
use Rattle.meaning.specs.Bounds.{least_copies, most_budget, most_copies, most_labels, most_value}
use Rattle.meaning.specs.Refusals.{Rules, ascending_from, bounds_fit, each_within, has_copies, job_refusal, knapsack_rules, least_value}
use Rattle.meaning.specs.Refusals.{lists_fit, numbers_fit, positive, q_fits, rules_of, claims_fit, kind_refusal, room_fits}
use Rattle.meaning.specs.Knapsacks.{BestValue, MayPick}
use Rattle.meaning.specs.Certificates.{certificate_cells}
use Rattle.meaning.proofs.Steps.{best_by}
use Rattle.meaning.proofs.Sections.{limit32}

-- ---- tests that were passed

-- a refusal that was not given: its test passed, and so did all that come later
pub past_if : (b : Bool) (r later : ℕ) → if (not b) (suc r) later ≡ 0 → T b × (later ≡ 0)
unfolding if
past_if true r later e = (tt, e)
past_if false r later e = absurd (omega arith)

-- a job that isn't refused with 3 to 5 goes on to what comes later
pub record Passed (r : Rules) (j : Job) (later : ℕ) : Type 0 where
  pub lists : T (lists_fit r j)
  pub bounds : T (bounds_fit r j)
  pub numbers : T (numbers_fit r j)
  pub later_none : later ≡ 0

-- so such a job keeps the rules
pub has_passed : (r : Rules) (j : Job) (later : ℕ) → job_refusal r j later ≡ 0 → Passed r j later
unfolding job_refusal
has_passed r j later e =
    let (a, e₁) = past_if (lists_fit r j) 2 _ e in
    let (b, e₂) = past_if (bounds_fit r j) 3 _ e₁ in
    let (c, e₃) = past_if (numbers_fit r j) 4 _ e₂ in
    record { lists = a; bounds = b; numbers = c; later_none = e₃ }

-- 5 asks four things
pub record Numbers (r : Rules) (j : Job) : Type 0 where
  pub weights : T (r.weight_rule j.weights)
  pub values : T (each_within r.value_floor most_value j.values)
  pub copies : T (each_within least_copies most_copies j.copies)
  pub q : T (q_fits r j)

pub each_number : (r : Rules) (j : Job) → T (numbers_fit r j) → Numbers r j
unfolding numbers_fit
each_number r j t =
    let weights = r.weight_rule j.weights in
    let values = each_within r.value_floor most_value j.values in
    let copies = each_within least_copies most_copies j.copies in
    let (wvc, q) = and_yes (weights && values && copies) (q_fits r j) t in
    let (wv, c) = and_yes (weights && values) copies wvc in
    let (w, v) = and_yes weights values wv in
    record { weights = w; values = v; copies = c; q = q }

-- a job that isn't refused with 3 to 6 or 9
pub record Cleared (room : Room) (k : Kind) (j : Job) (lent : Lent) : Type 0 where
  pub keeps : Passed (rules_of k) j (if (not (room_fits room lent)) 6 (if (not (claims_fit (rules_of k) j)) 9 0))
  pub roomy : T (room_fits room lent)
  pub claimed : T (claims_fit (rules_of k) j)

-- so such a job keeps the rules, has room, and has claims
pub is_cleared : (room : Room) (k : Kind) (j : Job) (lent : Lent) → kind_refusal room k j lent ≡ 0 → Cleared room k j lent
unfolding kind_refusal
is_cleared room k j lent e =
    let p = has_passed (rules_of k) j (if (not (room_fits room lent)) 6 (if (not (claims_fit (rules_of k) j)) 9 0)) e in
    let (a, e₁) = past_if (room_fits room lent) 5 (if (not (claims_fit (rules_of k) j)) 9 0) p.later_none in
    let (b, e₂) = past_if (claims_fit (rules_of k) j) 8 0 e₁ in
    record { keeps = p; roomy = a; claimed = b }

-- ---- a valid knapsack

pub record Valid (k : Knapsack) (j : Job) : Type 0 where
  pub few : labels j ≤ most_labels
  pub small : j.budget ≤ most_budget
  pub valued : length j.values ≡ labels j
  pub copied : length j.copies ≡ if (has_copies k) (labels j) 0
  pub weights : T (positive j.weights)
  pub values : T (each_within (least_value k) most_value j.values)
  pub copies : T (each_within least_copies most_copies j.copies)

-- a knapsack that passed is valid, with a q or without
pub valid_by : (k : Knapsack) (uses_q : Bool) (j : Job) (later : ℕ) → Passed (knapsack_rules k uses_q) j later → Valid k j
unfolding lists_fit bounds_fit knapsack_rules if
valid_by k uses_q j later p =
    let (l, l') = and_yes (eqb (length j.values) (labels j)) (eqb (length j.copies) (if (has_copies k) (labels j) 0)) p.lists in
    let (n, c) = and_yes (leb (labels j) most_labels) (leb j.budget most_budget) p.bounds in
    let numbers = each_number (knapsack_rules k uses_q) j p.numbers in
    record {
      few = leb_yes n;
      small = leb_yes c;
      valued = eqb_yes l;
      copied = eqb_yes l';
      weights = numbers.weights;
      values = numbers.values;
      copies = numbers.copies;
    }

pub is_valid : (k : Knapsack) (j : Job) (later : ℕ) → Passed (rules_of (packing k)) j later → Valid k j
unfolding rules_of
is_valid k j later p = valid_by k false j later p

-- what every member passes, the one at a place does
every_at : (test : ℕ → Bool) (xs : List ℕ) (i : ℕ) → i < length xs → T (every test xs) → T (test (at xs i))
unfolding every
every_at test [] i h t = absurd (not-suc-le-zero h)
every_at test (x ∷ xs) zero h t = (and_yes (test x) (every test xs) t).0
every_at test (x ∷ xs) (suc i) h t = every_at test xs i (le_of_suc-le-suc h) (and_yes (test x) (every test xs) t).1

-- the weights, values and copies of a valid knapsack, one by one
pub weight_rule : (k : Knapsack) (j : Job) → Valid k j → (i : ℕ) → i < labels j → 1 ≤ at j.weights i
unfolding positive labels
weight_rule k j ok i h = leb_yes (every_at (leb 1) j.weights i h ok.weights)

within_rule : (least most : ℕ) (xs : List ℕ) → T (each_within least most xs) → (i : ℕ) → i < length xs → at xs i ≤ most
unfolding each_within
within_rule least most xs ok i h =
    leb_yes (and_yes (leb least (at xs i)) (leb (at xs i) most) (every_at (λ x. leb least x && leb x most) xs i h ok)).1

pub value_rule : (k : Knapsack) (j : Job) → Valid k j → (i : ℕ) → i < labels j → at j.values i ≤ most_value
value_rule k j ok i h = within_rule (least_value k) most_value j.values ok.values i (omega (arith, ok.valued))

-- a copies number, where there is one
pub copies_rule : (k : Knapsack) (j : Job) → Valid k j → (i : ℕ) → i < length j.copies → at j.copies i ≤ most_copies
copies_rule k j ok i h = within_rule least_copies most_copies j.copies ok.copies i h

-- block sizes are no less than where they ascend from
pub size_rule : (low : ℕ) (sizes : List ℕ) (i : ℕ) → i < length sizes → T (ascending_from low sizes) → low ≤ at sizes i
unfolding ascending_from
size_rule low [] i h t = absurd (not-suc-le-zero h)
size_rule low (x ∷ xs) zero h t = leb_yes (and_yes (leb low x) (ascending_from (suc x) xs) t).0
size_rule low (x ∷ xs) (suc i) h t =
    let (first, rest) = and_yes (leb low x) (ascending_from (suc x) xs) t in
    let least : low ≤ x = leb_yes first in
    omega (arith, size_rule (suc x) xs i (le_of_suc-le-suc h) rest)

-- with room, a knapsack that passed is not refused
if_passed : (b : Bool) (x y : ℕ) → T b → if (not b) x y ≡ y
unfolding if
if_passed true x y t = refl
if_passed false x y t = absurd t

pub not_refused : (room : Room) (k : Knapsack) (j : Job) (lent : Lent) (later : ℕ) → Passed (rules_of (packing k)) j later → T (room_fits room lent)
    → kind_refusal room (packing k) j lent ≡ 0
unfolding kind_refusal job_refusal claims_fit rules_of knapsack_rules
not_refused room k j lent later p fits =
    if_passed (lists_fit (knapsack_rules k false) j) 3 _ p.lists
    ∙ if_passed (bounds_fit (knapsack_rules k false) j) 4 _ p.bounds
    ∙ if_passed (numbers_fit (knapsack_rules k false) j) 5 _ p.numbers
    ∙ if_passed (room_fits room lent) 6 _ fits
    ∙ if_passed true 9 0 tt

-- ---- the greatest possible value is 65,535 x 65,535

-- a list is worth at most the greatest value times its weight, since weights are 1 or more
worth_bound : (low : ℕ) (ws vs p : List ℕ) → length vs ≡ length ws → T (positive ws) → T (each_within low most_value vs)
    → total vs p ≤ most_value * total ws p
unfolding total positive each_within every
worth_bound low [] [] p e a b = zero-le
worth_bound low [] (v ∷ vs) p e a b = absurd (omega arith)
worth_bound low (w ∷ ws) [] p e a b = zero-le
worth_bound low (w ∷ ws) (v ∷ vs) [] e a b = zero-le
worth_bound low (w ∷ ws) (v ∷ vs) (x ∷ p) e a b =
    let (a₁, a₂) = and_yes (leb 1 w) (positive ws) a in
    let (b₁, b₂) = and_yes (leb low v && leb v most_value) (each_within low most_value vs) b in
    let heavy : 1 * x ≤ w * x = mul-le-mul_right x (leb_yes a₁) in
    let most : v * x ≤ most_value * x = mul-le-mul_right x (leb_yes (and_yes (leb low v) (leb v most_value) b₁).1) in
    let rest : total vs p ≤ most_value * total ws p = worth_bound low ws vs p (suc_inj e) a₂ b₂ in
    let more : most_value * (x + total ws p) ≤ most_value * (w * x + total ws p) = mul-le-mul_left most_value (omega (arith, one-mul x)) in
    omega (arith, mul-add most_value x (total ws p))

module _ (k : Knapsack) (j : Job) (ok : Valid k j) where
  -- a best value fits 32 bits, in each of the three knapsacks
  pub value_bound : (i c v : ℕ) → c ≤ j.budget → BestValue k j i c v → v ≤ most_value * most_budget
  unfolding labels
  value_bound i c v h b =
      le_trans (le_of_eq b.value)
      (le_trans (worth_bound (least_value k) j.weights j.values b.picks ok.valued ok.weights ok.values)
      (mul-le-mul_left most_value (le_trans b.best.fits.weight (le_trans h ok.small))))

  -- which is below 2^32
  pub value_32 : (i c v : ℕ) → c ≤ j.budget → BestValue k j i c v → v < limit32
  unfolding most_value most_budget
  value_32 i c v h b = omega (arith, value_bound i c v h b)

  -- so do the numbers of labels and of cells
  pub labels_32 : labels j < limit32
  unfolding most_labels
  labels_32 = omega (arith, ok.few)

  cells_32 : cell_count j < limit32
  unfolding cell_count most_labels most_budget
  cells_32 =
      let n-few : labels j + 1 ≤ most_labels + 1 = omega (arith, ok.few) in
      let c-small : j.budget + 1 ≤ most_budget + 1 = omega (arith, ok.small) in
      omega (arith, mul-le-mul n-few c-small)

-- of a certificate's too
pub certificate_32 : (k : Knapsack) (j : Job) → Valid k j → certificate_cells k j < limit32
unfolding certificate_cells most_budget
certificate_32 once j ok = cells_32 once j ok
certificate_32 limited j ok = cells_32 limited j ok
certificate_32 free j ok = omega (arith, ok.small)

-- ---- and that value is reached

-- one label of weight 1 and the greatest value, any number of times, with the greatest budget
pub richest : Job
richest = job_of 3 (most_budget ∷ []) (1 ∷ []) (most_value ∷ []) []

pub value_reached : BestValue free richest 1 most_budget (most_value * most_budget)
unfolding richest job_of total MayPick positive each_within every most_value
value_reached =
    best_by (most_budget ∷ [])
    (record { selection = record { one_each = refl; allowed = λ m h. tt }; weight = omega (arith, one-mul most_budget) })
    (omega arith)
    (λ q f. le_trans (worth_bound 1 (1 ∷ []) (most_value ∷ []) q refl tt tt) (mul-le-mul_left most_value f.weight))
