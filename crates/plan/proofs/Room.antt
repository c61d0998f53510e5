-- The picks that an answer has written had room in the lent slice.
-- Assumes nothing.
use mathlib.Core.Path.{◌≡◌, ap, refl}
use mathlib.Core.Option.{Option, none, some}
use Prim.Native.Nat.{ℕ, zero, suc, ◌≤◌}
use native.Mathlib.Omega.{arith}
use mathlib.Core.Bool.{Bool, true, false}
use mathlib.Core.List.{List}
use lib.Dec.{ltb}
use lib.ListN.{length}
use Rattle.meaning.specs.Says.{Answer}
use Rattle.meaning.specs.Says as Says
use Rattle.meaning.specs.declared.Way.TheVariants.{Light}
use Rattle.meaning.specs.Lists.{if}
use Rattle.meaning.specs.Job.{Job, labels, Kind, once, limited, free, packing, subset_sums, fewest_blocks, block_ways}
use Rattle.meaning.specs.Job.{sharing, labels_behind, stated_share, kind_of}
use Rattle.meaning.specs.Lent.{Lent, once_room, room_by, room_for, room_of}
use Rattle.meaning.specs.Refusals.{kind_refusal}
use Rattle.meaning.specs.Bytes.{JobRead, read_job, readable, unreadable}
use Rattle.meaning.specs.Blocks.{too_many}
use Rattle.meaning.specs.Answers.{answer_numbers}
use Rattle.meaning.specs.Solved.{Unrefused, Gives, Outcome, SolvedAs, SolvedLists, SolvedRead, TableBy, TableHolds, TurnedDown, ways_answer}
use Rattle.meaning.specs.Told.{ToldBytes, labels_read}
use Rattle.meaning.proofs.Unique.{answer_numbers_unique}
use Rattle.meaning.proofs.SolvedIn.{kept}
use Rattle.plan.specs.Picks.{picks_written}

-- never more than the labels
pub at_most : (a : Answer) (n : ℕ) → picks_written a n ≤ n
unfolding picks_written
at_most (Says.Refused r) n = omega arith
at_most (Says.Knapsack v w) n = omega arith
at_most (Says.Sums y t) n = omega arith
at_most (Says.Blocks b) n = omega arith
at_most (Says.Ways w) n = omega arith
at_most (Says.Shares s) n = omega arith
at_most (Says.Weight w) n = omega arith

-- an answer that says what one without picks says has none
as_without : (a b : Answer) (n m : ℕ) → answer_numbers a ≡ answer_numbers b → picks_written b n ≡ 0 → picks_written a n ≤ m
as_without a b n m same none-of-b = omega (arith, ap (λ (x : Answer). picks_written x n) (answer_numbers_unique {a = a} {b = b} same))

-- kind 6 has none, whether it is answered or refused
ways_without : (few : Bool) (w n : ℕ) → picks_written (if few (Says.Ways w) (Says.Refused 8)) n ≡ 0
unfolding picks_written if
ways_without true w n = refl
ways_without false w n = refl

module _ (j : Job) (before after : Lent) (a : Answer) where
  by_turning_down : (r : ℕ) → TurnedDown r before (answer_numbers a) after → picks_written a (labels j) ≤ length before.picks
  unfolding picks_written
  by_turning_down r t = as_without a (Says.Refused r) (labels j) (length before.picks) t.numbers refl

  one_each : (k : Kind) → (room_for k j).picks ≡ labels j → Unrefused k j before → picks_written a (labels j) ≤ length before.picks
  one_each k each ok = omega (arith, (kept k j before ok).picks_room, at_most a (labels j))

  by_answer : (k : Kind) (p : List ℕ) → Unrefused k j before → Gives k j (answer_numbers a) p → picks_written a (labels j) ≤ length before.picks
  unfolding Gives picks_written room_by once_room room_of ways_answer
  by_answer (packing once) p ok g = one_each (packing once) refl ok
  by_answer (packing limited) p ok g = one_each (packing limited) refl ok
  by_answer (packing free) p ok g = one_each (packing free) refl ok
  by_answer subset_sums p ok g = as_without a (Says.Sums g.yes g.totals) (labels j) (length before.picks) g.numbers refl
  by_answer fewest_blocks p ok g = one_each fewest_blocks refl ok
  by_answer block_ways p ok g =
      as_without a (ways_answer g.ways) (labels j) (length before.picks) g.numbers (ways_without (ltb g.ways too_many) g.ways (labels j))
  by_answer sharing p ok g = one_each sharing refl ok
  by_answer labels_behind p ok g = one_each labels_behind refl ok
  by_answer stated_share p ok g = one_each stated_share refl ok

  by_refusal : (k : Kind) (r : ℕ) → kind_of j.kind_number ≡ some k → kind_refusal (room_for k j) k j before ≡ r
      → Outcome r (room_for k j) (TableHolds k j) k j before (answer_numbers a) after → picks_written a (labels j) ≤ length before.picks
  unfolding Outcome
  by_refusal k zero of_kind no_refusal o = by_answer k o.content.picks (record { of_kind = of_kind; no_refusal = no_refusal }) o.gives
  by_refusal k (suc r) of_kind no_refusal o = by_turning_down (suc r) o

  by_kind : (o : Option Kind) → kind_of j.kind_number ≡ o → SolvedAs (room_by Light) (TableBy Light) o j before (answer_numbers a) after
      → picks_written a (labels j) ≤ length before.picks
  unfolding SolvedAs
  by_kind none of_kind t = by_turning_down 2 t
  by_kind (some k) of_kind o = by_refusal k (kind_refusal (room_for k j) k j before) of_kind refl o

-- for any job bytes: none where they can't be read
by_read : (x : JobRead) (before after : Lent) (a : Answer) (n : ℕ) → n ≡ labels_read x → SolvedRead (room_by Light) (TableBy Light) x before a after
    → picks_written a n ≤ length before.picks
unfolding labels_read SolvedRead SolvedLists
by_read (unreadable place) before after a n counted t = omega (arith, at_most a n)
by_read (readable j) before after a n counted solved = rw counted (by_kind j before after a (kind_of j.kind_number) refl solved)

pub picks_room : {bytes : List ℕ} {before after : Lent} {kind n : ℕ} {a : Answer} → ToldBytes bytes before kind n a after
    → picks_written a n ≤ length before.picks
picks_room {bytes} {before} {after} {kind} {n} {a} told = by_read (read_job bytes) before after a n told.labels_told told.solved.kept
