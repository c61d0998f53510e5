-- Kind 9, which is asked as kind 1 is, then about q, and then about the room that its numbers need.
-- Assumes nothing.
use mathlib.Core.Path.{◌≡◌, refl, sym, ap, ◌∙◌}
use mathlib.Core.Option.{some}
use Prim.Native.Nat.{ℕ, ◌≤◌, ◌<◌}
use native.Mathlib.Omega.{arith}
use mathlib.Core.Bool.{Bool, true, false, ◌&&◌}
use mathlib.Core.List.{List, [], ◌∷◌}
use lib.Dec.{leb, leb-zero}
use lib.ListN.{length}
use borrow.Author.Tests.{le-leb, lt-leb}
use Rattle.meaning.specs.Lists.{if}
use Rattle.meaning.specs.Job.{Job, Knapsack, job_of, labels, once, packing, stated_share, kind_of, all_kinds, has_q}
use Rattle.meaning.specs.Cuts.{stated_cells}
use Rattle.meaning.specs.Lent.{lent_of, room_by, room_of}
use Rattle.meaning.specs.Bounds.{least_q, most_q}
use Rattle.meaning.specs.Refusals.{has_copies, job_refusal, knapsack_rules, room_fits, rules_of}
use Rattle.meaning.proofs.Loops.{and_true}
use Rattle.numbers.specs.declared.Job.{Job as Came}
use Rattle.numbers.specs.Lists.{job_as}
use Rattle.rules.specs.declared.Rules.{Rules}
use Rattle.rules.specs.Ruling.{rules_from}
use Rattle.requests.proofs.Judging.{earlier_given, none_earlier, q_last, q_unasked}
use Rattle.planner.proofs.Preamble.{Lowest, no_copies}

-- whether q is within its bounds
abbrev pub fits : ℕ → Bool
fits q = leb least_q q && leb q most_q

module _ (c q : ℕ) (ws vs cs : List ℕ) where
  abbrev pub job : Job
  job = job_of 9 (c ∷ q ∷ []) ws vs cs

  abbrev pub bare : Job
  bare = job_of 9 (c ∷ q ∷ []) ws vs []

  -- what comes of it: kind 1's rules first, then q, then what comes later
  asked_as : (later : ℕ) → job_refusal (rules_of stated_share) job later ≡ job_refusal (rules_of (packing once)) job (if (fits q) later 5)
  unfolding rules_of job_of has_q if
  asked_as later = q_last once job later

  module _ (rules : Rules) (r : ℕ) (its_rules : rules_from rules false ≡ rules_of (packing once))
      (asked : r ≡ job_refusal (rules_from rules false) (job_of 9 (c ∷ []) ws vs cs) 0) where
    asked_first : r ≡ job_refusal (rules_of (packing once)) job 0
    asked_first = asked ∙ q_unasked rules false 9 c q ws vs cs ∙ rw its_rules

    -- one of kind 1's applies
    pub as_kind_1 : ¬ (r ≡ 0) → (later : ℕ) → r ≡ job_refusal (rules_of stated_share) job later
    as_kind_1 Some-number later =
        asked_first
        ∙ sym (asked_as later ∙ earlier_given (rules_of (packing once)) job (if (fits q) later 5) (λ none. Some-number (asked_first ∙ none)))

    module _ (none : r ≡ 0) where
      then_q : (later : ℕ) → job_refusal (rules_of stated_share) job later ≡ if (fits q) later 5
      then_q later = asked_as later ∙ none_earlier (rules_of (packing once)) job (if (fits q) later 5) (sym asked_first ∙ none)

      -- q is outside
      pub q_outside : fits q ≡ false → (later : ℕ) → 5 ≡ job_refusal (rules_of stated_share) job later
      unfolding if
      q_outside outside later = sym (then_q later ∙ rw outside)

      -- or within, and what comes later is asked
      module _ (within : fits q ≡ true) where
        pub then_room : (later : ℕ) → later ≡ job_refusal (rules_of stated_share) job later
        unfolding if
        then_room later = sym (then_q later ∙ rw within)

        -- of a job without copies
        pub bare_is : job ≡ bare
        unfolding rules_of knapsack_rules has_copies job_of
        bare_is = let no-cs : cs ≡ [] = no_copies stated_share job 0 refl (sym (then_room 0)) in rw no-cs

        pub bare_passes : job_refusal (rules_of stated_share) bare 0 ≡ 0
        bare_passes = rw (← bare_is) (sym (then_room 0))

-- ---- the room

-- 6 where a slice is too short, and 0 for none
abbrev pub asks_room : ℕ → ℕ → ℕ → ℕ → ℕ
asks_room needed n cells picks = if (leb needed cells && leb n picks) 0 6

-- too few cells; too few picks; or enough of both
pub few_cells : (needed n cells picks : ℕ) → cells < needed → 6 ≡ asks_room needed n cells picks
unfolding if
few_cells needed n cells picks short = rw (lt-leb needed cells short)

pub few_picks : (needed n cells picks : ℕ) → needed ≤ cells → picks < n → 6 ≡ asks_room needed n cells picks
unfolding if
few_picks needed n cells picks enough short = rw (le-leb needed cells enough, lt-leb n picks short)

pub room_enough : (needed n cells picks : ℕ) → needed ≤ cells → n ≤ picks → 0 ≡ asks_room needed n cells picks
unfolding if
room_enough needed n cells picks enough enough-picks = rw (le-leb needed cells enough, le-leb n picks enough-picks)

-- ---- the lowest of 3 to 6, by what the code asked

-- the job of kind 9 that came
abbrev pub stated_job : Came → Job
stated_job j = job j.budget j.q j.weights j.values j.copies

-- what kind 9 is asked: 6 by the room that its numbers need
abbrev pub stated_asked : Came → ℕ → ℕ → ℕ
stated_asked j cells picks =
    job_refusal (rules_of stated_share) (stated_job j) (asks_room (stated_cells (stated_job j)) (labels (stated_job j)) cells picks)

-- the rules of kind 1, as the code has them
abbrev pub RulesOf1 : Rules → Type 0
RulesOf1 rules = (k : Knapsack) → kind_of 1 ≡ some (packing k) → rules_from rules false ≡ rules_of (packing k)

module _ (j : Came) (rules : Rules) (r cells picks : ℕ) (its_rules : RulesOf1 rules)
    (asked : (kind : ℕ) (needs_sum : Bool) → r ≡ job_refusal (rules_from rules needs_sum) (job_as kind j) 0) where
  ruled : rules_from rules false ≡ rules_of (packing once)
  unfolding all_kinds kind_of
  ruled = its_rules once refl

  pub one_of_kind_1 : ¬ (r ≡ 0) → r ≡ stated_asked j cells picks
  one_of_kind_1 Some-number = as_kind_1 j.budget j.q j.weights j.values j.copies rules r ruled (asked 9 false) Some-number _

  module _ (none : r ≡ 0) where
    pub wrong_q : fits j.q ≡ false → 5 ≡ stated_asked j cells picks
    wrong_q outside = q_outside j.budget j.q j.weights j.values j.copies rules r ruled (asked 9 false) none outside _

    module _ (within : fits j.q ≡ true) where
      pub let_to_measure : job_refusal (rules_of stated_share) (bare j.budget j.q j.weights j.values j.copies) 0 ≡ 0
      let_to_measure = bare_passes j.budget j.q j.weights j.values j.copies rules r ruled (asked 9 false) none within

      module _ {needed : ℕ} (measured : needed ≡ stated_cells (bare j.budget j.q j.weights j.values j.copies)) where
        its_cells : needed ≡ stated_cells (stated_job j)
        its_cells = measured ∙ ap stated_cells (sym (bare_is j.budget j.q j.weights j.values j.copies rules r ruled (asked 9 false) none within))

        room_next : (later : ℕ) → later ≡ job_refusal (rules_of stated_share) (stated_job j) later
        room_next later = then_room j.budget j.q j.weights j.values j.copies rules r ruled (asked 9 false) none within later

        pub no_cells : cells < needed → 6 ≡ stated_asked j cells picks
        no_cells short = few_cells _ _ cells picks (omega (arith, its_cells)) ∙ room_next _

        pub no_picks : needed ≤ cells → picks < length j.weights → 6 ≡ stated_asked j cells picks
        unfolding labels job_of
        no_picks enough short = few_picks _ _ cells picks (omega (arith, its_cells)) short ∙ room_next _

        pub all_room : needed ≤ cells → length j.weights ≤ picks → 0 ≡ stated_asked j cells picks
        unfolding labels job_of
        all_room enough many = room_enough _ _ cells picks (omega (arith, its_cells)) many ∙ room_next _

-- the lowest of 3 to 6, with any words
pub stated_lowest : (j : Job) (cells words picks : List ℕ) (r : ℕ) → j.kind_number ≡ 9
    → r ≡ job_refusal (rules_of stated_share) j (if (leb (stated_cells j) (length cells) && leb (labels j) (length picks)) 0 6)
    → Lowest stated_share j (lent_of cells words picks) r
unfolding room_fits room_by room_of lent_of kind_of all_kinds
stated_lowest j cells words picks r nine asked = record {
  of_kind = rw nine;
  lowest = asked ∙ ap (λ (enough : Bool). job_refusal (rules_of stated_share) j (if (enough && leb (labels j) (length picks)) 0 6))
      (sym (and_true (leb (stated_cells j) (length cells)))
      ∙ ap (λ (b : Bool). leb (stated_cells j) (length cells) && b) (sym (leb-zero (length words))));
}
