-- The room that each kind needs.
-- Assumes nothing.
use mathlib.Core.Path.{◌≡◌, refl}
use Prim.Native.Nat.{ℕ, ◌+◌, ◌*◌, ◌/◌, ◌≤◌, ◌<◌, min}
use mathlib.Core.Bool.{Bool, false, ◌&&◌}
use lib.Dec.{leb}
use borrow.Author.Tests.{le-leb, lt-leb}
use native.Mathlib.Omega.{arith}
use native.Mathlib.Nat.{mul-le-mul}
use Rattle.meaning.specs.declared.Way.{Way}
use Rattle.meaning.specs.declared.Way.TheVariants.{Full}
use Rattle.meaning.specs.Job.{Knapsack, Kind, once, limited, free, packing, subset_sums, fewest_blocks, block_ways, sharing, labels_behind}
use Rattle.meaning.specs.Lent.{cell_count, once_room, room_by, room_of}
use Rattle.meaning.specs.Bounds.{most_labels, most_budget}
use Rattle.meaning.proofs.Laws.{number_of}
use Rattle.rules.specs.declared.Room.{Room}
use Rattle.rules.specs.Places.{NeededBy, NeededFor, room_from}

-- ---- kinds 1 to 3: n labels and a budget, of which so many labels and so high a cell were counted

pub one_row : (k : Knapsack) (n budget counted top : ℕ) → counted ≡ n → top ≡ budget → number_of (packing k) ≡ 3
    → NeededFor Full (packing k) n budget (record { cells = top + 1; words = 0; picks = counted })
unfolding NeededFor room_from once_room room_by room_of number_of
one_row once n budget counted top a b three j e f = absurd (omega arith)
one_row limited n budget counted top a b three j e f = absurd (omega arith)
one_row free n budget counted top a b three j e f = rw (e, f, a, b)

pub all_rows : (k : Knapsack) (n budget counted top : ℕ) → counted ≡ n → top ≡ budget → ¬ (number_of (packing k) ≡ 3)
    → NeededFor Full (packing k) n budget (record { cells = (counted + 1) * (top + 1); words = 0; picks = counted })
unfolding NeededFor room_from once_room room_by room_of number_of cell_count
all_rows once n budget counted top a b other j e f = rw (e, f, a, b)
all_rows limited n budget counted top a b other j e f = rw (e, f, a, b)
all_rows free n budget counted top a b other j e f = absurd (other refl)

-- kind 1 the light way
pub light_needed : (n budget counted top : ℕ) → counted ≡ n → top ≡ budget
    → NeededBy (packing once) n budget (record { cells = top + 1; words = counted * (top / 64 + 1); picks = counted })
unfolding NeededFor room_from once_room room_by room_of
light_needed n budget counted top a b j e f = rw (e, f, a, b)

-- the words can be counted
pub few_words : (n budget : ℕ) → n ≤ most_labels → budget ≤ most_budget → n * (budget / 64 + 1) ≤ most_labels * (most_budget / 64 + 1)
few_words n budget h l =
    let per : budget / 64 + 1 ≤ most_budget / 64 + 1 = omega arith in
    mul-le-mul h per

-- within the bounds it is what a job of n labels and this budget needs
pub needed_within : (way : Way) (k : Kind) (n budget : ℕ) (r : Room) → n ≤ most_labels → budget ≤ most_budget
    → NeededFor way k (min n most_labels) (min budget most_budget) r → NeededFor way k n budget r
needed_within way k n budget r h l needed =
    let same-n : min n most_labels ≡ n = omega arith in
    let same-budget : min budget most_budget ≡ budget = omega arith in
    rw (same-n, same-budget) at needed

-- ---- kinds 4 to 8

module _ (n budget : ℕ) where
  pub bits_needed : NeededBy subset_sums n budget (record { cells = 0; words = budget / 64 + 1; picks = 0 })
  unfolding NeededFor room_from room_by room_of
  bits_needed j e f = rw f

  pub fewest_needed : NeededBy fewest_blocks n budget (record { cells = budget + 1; words = 0; picks = n })
  unfolding NeededFor room_from room_by room_of
  fewest_needed j e f = rw (e, f)

  pub ways_needed : NeededBy block_ways n budget (record { cells = 0; words = budget + 1; picks = 0 })
  unfolding NeededFor room_from room_by room_of
  ways_needed j e f = rw f

  pub behind_needed : NeededBy labels_behind n budget (record { cells = budget + 1; words = 0; picks = n })
  unfolding NeededFor room_from room_by room_of
  behind_needed j e f = rw (e, f)

  pub shares_needed : NeededBy sharing n budget (record { cells = 0; words = 0; picks = n })
  unfolding NeededFor room_from room_by room_of
  shares_needed j e f = rw e

-- ---- whether it is there, slice by slice

pub first_fails : (needed there : ℕ) (second third : Bool) → there < needed → false ≡ (leb needed there && second && third)
first_fails needed there second third h = rw (lt-leb needed there h)

pub second_fails : (needed there needed-too there-too : ℕ) (third : Bool) → needed ≤ there → there-too < needed-too
    → false ≡ (leb needed there && leb needed-too there-too && third)
second_fails needed there needed-too there-too third h l = rw (le-leb needed there h, lt-leb needed-too there-too l)

pub last_asked : (needed there needed-too there-too : ℕ) (third : Bool) → needed ≤ there → needed-too ≤ there-too
    → third ≡ (leb needed there && leb needed-too there-too && third)
last_asked needed there needed-too there-too third h l = rw (le-leb needed there h, le-leb needed-too there-too l)
