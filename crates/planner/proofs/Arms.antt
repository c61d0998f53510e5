-- What each arm asked, by the rules and the room that it chose, is the lowest of 3 to 6 for its kind, whatever the slices that the kind doesn't need.
-- Assumes nothing.
use mathlib.Core.Path.{◌≡◌, refl}
use Prim.Native.Nat.{ℕ, min}
use mathlib.Core.Bool.{true, false}
use mathlib.Core.List.{List}
use lib.ListN.{length}
use Rattle.meaning.specs.declared.Way.TheVariants.{Full}
use Rattle.meaning.specs.Lists.{if}
use Rattle.meaning.specs.Job.{all_kinds, job_of, kind_of, labels, labels_behind, once, packing, sharing, subset_sums}
use Rattle.meaning.specs.Bounds.{most_labels, most_budget}
use Rattle.meaning.specs.Lent.{lent_of, room_by, room_of}
use Rattle.meaning.specs.Refusals.{job_refusal, rules_of}
use Rattle.numbers.specs.declared.Job.{Job as Came}
use Rattle.numbers.specs.Lists.{job_as}
use Rattle.rules.specs.declared.Room.{Room}
use Rattle.rules.specs.declared.Rules.{Rules as Ruling}
use Rattle.rules.specs.Ruling.{rules_from}
use Rattle.rules.specs.Places.{NeededBy, NeededFor, has_room}
use Rattle.rules.proofs.Ruling.{KnapsackOf}
use Rattle.knapsack.proofs.KnapsackDoor.{words_needed}
use Rattle.planner.proofs.Preamble.{Lowest, LowestBy, asked_counted, asked_knapsack, unneeded}
use Rattle.planner.proofs.Laying.{LaidKind, laid_kind}

module _ (j : Came) (rules : Ruling) (room : Room) (r n : ℕ) (counted : n ≡ length j.weights) where
  -- kinds 1 to 3, kind 1 the full way
  pub packed_full : {kind : ℕ} (k : KnapsackOf kind) → rules_from rules false ≡ rules_of (packing k.knapsack)
      → NeededFor Full (packing k.knapsack) (min n most_labels) (min j.budget most_budget) room → (cells picks : List ℕ)
      → r ≡ job_refusal (rules_from rules false) (job_as kind j) (if (has_room room (length cells) 0 (length picks)) 0 6)
      → (words : List ℕ) → LowestBy Full (packing k.knapsack) (job_as kind j) (lent_of cells words picks) r
  unfolding job_of labels lent_of
  packed_full {kind} k its_rules needed cells picks asked words =
      asked_knapsack k.knapsack (job_as kind j) (lent_of cells words picks) rules room _ 0 _ r n counted k.of_kind its_rules needed
      refl (unneeded (room_by Full (packing k.knapsack) (job_as kind j)).words 0 _ (words_needed k.knapsack (job_as kind j))) refl asked

  -- kind 1 the light way
  pub packed_light : rules_from rules false ≡ rules_of (packing once) → NeededBy (packing once) (min n most_labels) (min j.budget most_budget) room
      → (cells words picks : List ℕ)
      → r ≡ job_refusal (rules_from rules false) (job_as 1 j) (if (has_room room (length cells) (length words) (length picks)) 0 6)
      → Lowest (packing once) (job_as 1 j) (lent_of cells words picks) r
  unfolding all_kinds job_of kind_of labels lent_of
  packed_light its_rules needed cells words picks asked =
      asked_knapsack once (job_as 1 j) (lent_of cells words picks) rules room _ _ _ r n counted refl its_rules needed refl refl refl asked

  -- kinds 5 and 6
  pub laid : {kind : ℕ} (k : LaidKind kind) → (rules_from rules false ≡ rules_of k.which) → NeededBy k.which n j.budget room
      → (cells words picks : List ℕ)
      → r ≡ job_refusal (rules_from rules false) (job_as kind j) (if (has_room room (length cells) (length words) (length picks)) 0 6)
      → Lowest k.which (job_as kind j) (lent_of cells words picks) r
  unfolding job_of labels lent_of
  laid {kind} k its_rules needed cells words picks asked =
      asked_counted k.which (job_as kind j) (lent_of cells words picks) rules false room _ _ _ r n counted (laid_kind k.is) its_rules needed
      refl refl refl asked

  -- kind 7
  pub shared : rules_from rules true ≡ rules_of sharing → NeededBy sharing n j.budget room → (picks : List ℕ)
      → r ≡ job_refusal (rules_from rules true) (job_as 7 j) (if (has_room room 0 0 (length picks)) 0 6)
      → (cells words : List ℕ) → Lowest sharing (job_as 7 j) (lent_of cells words picks) r
  unfolding all_kinds job_of kind_of labels lent_of room_by room_of
  shared its_rules needed picks asked cells words =
      asked_counted sharing (job_as 7 j) (lent_of cells words picks) rules true room 0 0 _ r n counted refl its_rules needed
      (unneeded 0 0 (length cells) refl) (unneeded 0 0 (length words) refl) refl asked

  -- kind 8
  pub shown : rules_from rules false ≡ rules_of labels_behind → NeededBy labels_behind n j.budget room → (cells picks : List ℕ)
      → r ≡ job_refusal (rules_from rules false) (job_as 8 j) (if (has_room room (length cells) 0 (length picks)) 0 6)
      → (words : List ℕ) → Lowest labels_behind (job_as 8 j) (lent_of cells words picks) r
  unfolding all_kinds job_of kind_of labels lent_of room_by room_of
  shown its_rules needed cells picks asked words =
      asked_counted labels_behind (job_as 8 j) (lent_of cells words picks) rules false room _ 0 _ r n counted refl its_rules needed
      refl (unneeded 0 0 (length words) refl) refl asked

-- kind 4, whose room doesn't go by the labels
pub reached : (j : Came) (rules : Ruling) (room : Room) (r : ℕ) → rules_from rules false ≡ rules_of subset_sums
    → ((n : ℕ) → NeededBy subset_sums n j.budget room) → (words : List ℕ)
    → r ≡ job_refusal (rules_from rules false) (job_as 4 j) (if (has_room room 0 (length words) 0) 0 6)
    → (cells picks : List ℕ) → Lowest subset_sums (job_as 4 j) (lent_of cells words picks) r
unfolding all_kinds job_of kind_of labels lent_of room_by room_of
reached j rules room r its_rules needed words asked cells picks =
    asked_counted subset_sums (job_as 4 j) (lent_of cells words picks) rules false room 0 _ 0 r (length j.weights) refl refl its_rules
    (needed (length j.weights)) (unneeded 0 0 (length cells) refl) refl (unneeded 0 0 (length picks) refl) asked
