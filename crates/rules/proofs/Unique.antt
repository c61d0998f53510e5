-- No second choice is left: two structs of rules, of bounds or of room that meet the promise of a function of this crate are the same.
-- Assumes nothing.
use mathlib.Core.Path.{◌≡◌, refl, sym, ap, ◌∙◌}
use mathlib.Core.Option.{some}
use Prim.Native.Nat.{ℕ, ◌≤◌, min}
use native.Mathlib.Decide.{dec_lt}
use native.Mathlib.Omega.{arith}
use mathlib.Core.Bool.{Bool, true, false}
use mathlib.Core.List.{List, [], ◌∷◌}
use lib.ListN.{length-replicate, replicate}
use Rattle.meaning.specs.Lists.{every, if}
use Rattle.meaning.specs.declared.Way.{Way}
use Rattle.meaning.specs.declared.Way.TheVariants.{Light, Full}
use Rattle.meaning.specs.Job.{Knapsack, Kind, once, packing, subset_sums, fewest_blocks, block_ways, sharing, labels_behind}
use Rattle.meaning.specs.Job.{kind_of, job_of, labels}
use Rattle.meaning.specs.Lent as lent
use Rattle.meaning.specs.Refusals as meaning
use Rattle.meaning.specs.Bounds.{most_labels, most_budget, most_value, most_copies, least_copies, least_q, most_q}
use Rattle.meaning.specs.Refusals.{rules_of, positive, ascending_from, anything}
use Rattle.rules.specs.declared.WeightRule.{WeightRule}
use Rattle.rules.specs.declared.WeightRule.TheVariants.{Positive, Ascending, Anything}
use Rattle.rules.specs.declared.Rules.{Rules}
use Rattle.rules.specs.declared.Bounds.{Bounds}
use Rattle.rules.specs.declared.Room.{Room}
use Rattle.rules.specs.Ruling.{rules_from, rule_from}
use Rattle.rules.specs.Places.{NeededBy, NeededFor, room_from}
use Rattle.rules.proofs.Ruling.{knapsack_of}

-- ---- the rules of `meaning` settle the code's

-- the rule on weights that a test is: only `Anything` lets a 0 in, and only `Ascending` keeps a second 1 out
unrule : (List ℕ → Bool) → WeightRule
unrule test = if (test (0 ∷ [])) Anything (if (test (1 ∷ 1 ∷ [])) Positive Ascending)

unruled : (w : WeightRule) → unrule (rule_from w) ≡ w
unfolding unrule rule_from positive ascending_from anything every if
unruled Positive = refl
unruled Ascending = refl
unruled Anything = refl

-- the code's rules that are these
rules_back : meaning.Rules → Rules
rules_back m = record {
  valued = m.uses_values;
  copied = m.uses_copies;
  labels = m.label_bound;
  budget = m.budget_bound;
  weights = unrule m.weight_rule;
  floor = m.value_floor;
}

rules_back_lem : (r : Rules) (needs_sum : Bool) → rules_back (rules_from r needs_sum) ≡ r
unfolding rules_back rules_from
rules_back_lem r needs_sum = rw (unruled r.weights)

pub rules_unique : (needs_sum : Bool) (m : meaning.Rules) (r r' : Rules) → rules_from r needs_sum ≡ m → rules_from r' needs_sum ≡ m → r ≡ r'
rules_unique needs_sum m r r' a b = sym (rules_back_lem r needs_sum) ∙ ap rules_back (a ∙ sym b) ∙ rules_back_lem r' needs_sum

-- ---- the rules of each kind

-- `knapsack_rules`: a number from 1 to 3 is that of a knapsack, so its promise isn't empty
pub knapsack_rules_unique : (kind : ℕ) (r r' : Rules) → (1 ≤ kind) × (kind ≤ 3)
    → ((k : Knapsack) → kind_of kind ≡ some (packing k) → rules_from r false ≡ rules_of (packing k))
    → ((k : Knapsack) → kind_of kind ≡ some (packing k) → rules_from r' false ≡ rules_of (packing k)) → r ≡ r'
knapsack_rules_unique kind r r' h a b =
    let s = knapsack_of kind h.0 h.1 in
    rules_unique false (rules_of (packing s.knapsack)) r r' (a s.knapsack s.of_kind) (b s.knapsack s.of_kind)

-- `sums_rules`
pub sums_rules_unique : (r r' : Rules) → (rules_from r false ≡ rules_of subset_sums) × (rules_from r false ≡ rules_of labels_behind)
    → (rules_from r' false ≡ rules_of subset_sums) × (rules_from r' false ≡ rules_of labels_behind) → r ≡ r'
sums_rules_unique r r' a b = rules_unique false (rules_of subset_sums) r r' a.0 b.0

-- `blocks_rules`
pub blocks_rules_unique : (r r' : Rules) → (rules_from r false ≡ rules_of fewest_blocks) × (rules_from r false ≡ rules_of block_ways)
    → (rules_from r' false ≡ rules_of fewest_blocks) × (rules_from r' false ≡ rules_of block_ways) → r ≡ r'
blocks_rules_unique r r' a b = rules_unique false (rules_of fewest_blocks) r r' a.0 b.0

-- `shares_rules`
pub shares_rules_unique : (r r' : Rules) → rules_from r true ≡ rules_of sharing → rules_from r' true ≡ rules_of sharing → r ≡ r'
shares_rules_unique = rules_unique true (rules_of sharing)

-- ---- the bounds of values, of copies and of q

bounds_unique : (least most : ℕ) (r r' : Bounds) → (r.least ≡ least) × (r.most ≡ most) → (r'.least ≡ least) × (r'.most ≡ most) → r ≡ r'
bounds_unique least most r r' a b =
    let low : r.least ≡ r'.least = a.0 ∙ sym b.0 in
    let high : r.most ≡ r'.most = a.1 ∙ sym b.1 in
    λ i. record { least = low i; most = high i }

-- `value_bounds`
pub value_bounds_unique : (rules : Rules) (r r' : Bounds) → (r.least ≡ rules.floor) × (r.most ≡ most_value)
    → (r'.least ≡ rules.floor) × (r'.most ≡ most_value) → r ≡ r'
value_bounds_unique rules = bounds_unique rules.floor most_value

-- `copies_bounds`
pub copies_bounds_unique : (r r' : Bounds) → (r.least ≡ least_copies) × (r.most ≡ most_copies)
    → (r'.least ≡ least_copies) × (r'.most ≡ most_copies) → r ≡ r'
copies_bounds_unique = bounds_unique least_copies most_copies

-- `q_bounds`
pub q_bounds_unique : (r r' : Bounds) → (r.least ≡ least_q) × (r.most ≡ most_q) → (r'.least ≡ least_q) × (r'.most ≡ most_q) → r ≡ r'
q_bounds_unique = bounds_unique least_q most_q

-- ---- the room that `meaning` asks for settles the code's

-- the code's room that is this
room_back : lent.Room → Room
room_back m = record { cells = m.cells; words = m.words; picks = m.picks }

-- there is a job with so many labels and this budget, so what such a job needs is one room
pub needed_unique : (way : Way) (k : Kind) (n budget : ℕ) (r r' : Room) → NeededFor way k n budget r → NeededFor way k n budget r' → r ≡ r'
unfolding NeededFor room_from lent.room_of room_back job_of labels
needed_unique way k n budget r r' a b =
    let j = job_of 0 (budget ∷ []) (replicate n 0) [] [] in
    let long : labels j ≡ n = length-replicate n 0 in
    ap room_back (a j long refl ∙ sym (b j long refl))

-- ---- the room of each kind

-- `knapsack_room`, for any n and C
pub knapsack_room_unique : (kind n budget : ℕ) (r r' : Room) → (1 ≤ kind) × (kind ≤ 3)
    → ((k : Knapsack) → kind_of kind ≡ some (packing k) → NeededFor Full (packing k) (min n most_labels) (min budget most_budget) r)
    → ((k : Knapsack) → kind_of kind ≡ some (packing k) → NeededFor Full (packing k) (min n most_labels) (min budget most_budget) r') → r ≡ r'
knapsack_room_unique kind n budget r r' h a b =
    let s = knapsack_of kind h.0 h.1 in
    needed_unique Full (packing s.knapsack) (min n most_labels) (min budget most_budget) r r'
    (a s.knapsack s.of_kind) (b s.knapsack s.of_kind)

-- `light_room`, for any n and C
pub light_room_unique : (n budget : ℕ) (r r' : Room) → NeededBy (packing once) (min n most_labels) (min budget most_budget) r
    → NeededBy (packing once) (min n most_labels) (min budget most_budget) r' → r ≡ r'
light_room_unique n budget r r' a b = needed_unique Light (packing once) (min n most_labels) (min budget most_budget) r r' a b

-- `sums_room`
pub sums_room_unique : (budget : ℕ) (r r' : Room) → ((n : ℕ) → NeededBy subset_sums n budget r) → ((n : ℕ) → NeededBy subset_sums n budget r')
    → r ≡ r'
sums_room_unique budget r r' a b = needed_unique Light subset_sums 0 budget r r' (a 0) (b 0)

-- `row_room`
pub row_room_unique : (n budget : ℕ) (r r' : Room) → NeededBy fewest_blocks n budget r × NeededBy labels_behind n budget r
    → NeededBy fewest_blocks n budget r' × NeededBy labels_behind n budget r' → r ≡ r'
row_room_unique n budget r r' a b = needed_unique Light fewest_blocks n budget r r' a.0 b.0

-- `blocks_room`
pub blocks_room_unique : (kind n budget : ℕ) (r r' : Room) → (5 ≤ kind) × (kind ≤ 6)
    → (kind ≡ 5 → NeededBy fewest_blocks n budget r) × (kind ≡ 6 → NeededBy block_ways n budget r)
    → (kind ≡ 5 → NeededBy fewest_blocks n budget r') × (kind ≡ 6 → NeededBy block_ways n budget r') → r ≡ r'
blocks_room_unique kind n budget r r' h a b =
    elim (dec_lt 5 kind) [
      | yes above ↦ let six : kind ≡ 6 = omega arith in needed_unique Light block_ways n budget r r' (a.1 six) (b.1 six)
      | no other ↦ let five : kind ≡ 5 = omega arith in needed_unique Light fewest_blocks n budget r r' (a.0 five) (b.0 five)
    ]

-- `shares_room`
pub shares_room_unique : (n : ℕ) (r r' : Room) → ((budget : ℕ) → NeededBy sharing n budget r) → ((budget : ℕ) → NeededBy sharing n budget r') → r ≡ r'
shares_room_unique n r r' a b = needed_unique Light sharing n 0 r r' (a 0) (b 0)
