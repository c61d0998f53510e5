-- More labels than the program has picks: in kinds 1, 2, 3, 8 and 9 whoever replies prints a refusal with 6, or with the lowest of 3 to 5 that
-- applies.
-- Assumes nothing.
use mathlib.Core.Path.{◌∙◌, ◌≡◌, ap, refl}
use mathlib.Core.Option.{some}
use Prim.Native.Nat.{ℕ, suc, ◌≤◌, ◌<◌}
use native.Mathlib.Omega.{arith}
use mathlib.Core.Bool.{Bool, true, false, ◌&&◌}
use mathlib.Core.List.{List, [], ◌∷◌, map}
use lib.Dec.{leb}
use lib.ListN.{length, length-replicate, replicate, take}
use borrow.Author.Tests.{lt-leb}
use Rattle.meaning.specs.Says.{Answer}
use Rattle.meaning.specs.Says as Says
use Rattle.meaning.specs.Lists.{if}
use Rattle.meaning.specs.Job.{Job, Kind, Knapsack, once, limited, free, packing, subset_sums, labels_behind, stated_share, kind_of, labels}
use Rattle.meaning.specs.Lent.{Lent, Room, lent_of, once_room, room_by, room_for, room_of}
use Rattle.meaning.specs.Refusals.{job_refusal, kind_refusal, room_fits, rules_of}
use Rattle.meaning.specs.Bytes.{read_job, readable}
use Rattle.meaning.specs.Solved.{Solved, TableHolds}
use Rattle.meaning.proofs.Laws.{answers_its_number, bytes_solved, kind_solved}
use Rattle.meaning.proofs.Valid.{has_passed}
use Rattle.meaning.proofs.Opens.{opens}
use Rattle.meaning.proofs.Cases.{plain}
use Rattle.print.specs.Lines.{lines_of, refused_lines}
use Rattle.print.proofs.Joined.{written_out}
use Rattle.plan.specs.Replies.{Replied, a_job, longer, most_input, our_picks, our_slices}

-- ---- too few picks, whoever lends them

-- three tests, of which the last fails
last_fails : (a b : Bool) → (a && b && false) ≡ false
last_fails true true = refl
last_fails true false = refl
last_fails false b = refl

-- so there isn't the room
few_picks : (room : Room) (lent : Lent) → length lent.picks < room.picks → room_fits room lent ≡ false
unfolding room_fits
few_picks room lent few =
    let cells_fit : Bool = leb room.cells (length lent.cells) in
    let words-fit : Bool = leb room.words (length lent.words) in
    rw (lt-leb room.picks (length lent.picks) few) (last_fails cells_fit words-fit)

-- and what isn't refused with less is refused with 6
six_or_less : (k : Kind) (j : Job) (room : Room) (lent : Lent) → length lent.picks < room.picks
    → kind_refusal room k j lent ≡ job_refusal (rules_of k) j 6
unfolding kind_refusal if
six_or_less k j room lent few = rw (few_picks room lent few) refl

-- so whoever solves it answers that
refused_for_picks : (k : Kind) (j : Job) (before after : Lent) (a : Answer) → kind_of j.kind_number ≡ some k
    → length before.picks < (room_for k j).picks → Solved j before a after → a ≡ Says.Refused (job_refusal (rules_of k) j 6)
refused_for_picks k j before after a of_kind few solved =
    let r = job_refusal (rules_of k) j 6 in
    answers_its_number (room_for k j) (TableHolds k j) k j before after a r
    (kind_solved j before k r a after of_kind (six_or_less k j (room_for k j) before few) solved)
    (λ none. absurd (omega (arith, (has_passed (rules_of k) j 6 none).later_none)))

-- ---- the program's

-- more labels than our picks
few_of_ours : (n : ℕ) → our_picks < n → length our_slices.picks < n
unfolding our_slices lent_of
few_of_ours n more = omega (arith, length-replicate {A = ℕ} our_picks 0)

-- a refusal's lines are its number's, whatever the kind and the picks
refused_prints : (kind r : ℕ) (a : Answer) (picks : List ℕ) → a ≡ Says.Refused r → lines_of kind a picks ≡ refused_lines r
unfolding lines_of
refused_prints kind r a picks says = ap (λ (b : Answer). lines_of kind b picks) says

-- kinds 1, 2, 3, 8 and 9
pub data PicksLabels : Kind → Type 0 where
  a_knapsack : (s : Knapsack) → PicksLabels (packing s)
  behind_a_total : PicksLabels labels_behind
  for_a_share : PicksLabels stated_share

-- have a pick for each label
a_pick_each : {k : Kind} (j : Job) → PicksLabels k → (room_for k j).picks ≡ labels j
unfolding room_by once_room room_of
a_pick_each j (a_knapsack once) = refl
a_pick_each j (a_knapsack limited) = refl
a_pick_each j (a_knapsack free) = refl
a_pick_each j behind_a_total = refl
a_pick_each j for_a_share = refl

-- so what is printed is a refusal with the lowest of 3 to 5 that applies, or else with 6
pub more_labels_than_picks : {input before after : List ℕ} {size : ℕ} {k : Kind} (j : Job) → PicksLabels k → length input ≤ most_input
    → read_job input ≡ readable j → kind_of j.kind_number ≡ some k → our_picks < labels j → Replied input before after size
    → take size after ≡ refused_lines (job_refusal (rules_of k) j 6)
more_labels_than_picks j picks short reads of_kind more (longer long put) = absurd (omega arith)
more_labels_than_picks {input} {k = k} j picks short reads of_kind more (a_job short' x) =
    let solved = bytes_solved input j our_slices x.left x.answer reads x.solved in
    let few : length our_slices.picks < (room_for k j).picks = rw (a_pick_each j picks) (few_of_ours (labels j) more) in
    written_out x.put ∙ refused_prints _ _ x.answer _ (refused_for_picks k j our_slices x.left x.answer of_kind few solved)

-- ---- closed cases: as many labels as picks, and one more

abbrev refused_here : Kind × Job → ℕ
refused_here (k, j) = kind_refusal (room_for k j) k j our_slices

at_our_picks : map refused_here (
    (packing once, plain 1 63 (replicate our_picks 1) (replicate our_picks 1) [])
    ∷ (packing once, plain 1 63 (replicate (suc our_picks) 1) (replicate (suc our_picks) 1) [])
    ∷ (labels_behind, plain 8 63 (replicate our_picks 1) [] [])
    ∷ (labels_behind, plain 8 63 (replicate (suc our_picks) 1) [] [])
    ∷ (labels_behind, plain 8 63 (replicate (suc our_picks) 0) [] [])  -- a lower number applies
    ∷ (subset_sums, plain 4 63 (replicate (suc our_picks) 1) [] [])  -- which has no picks
    ∷ []
    )
    ≡ 0 ∷ 6 ∷ 0 ∷ 6 ∷ 5 ∷ 0 ∷ []
unfolding opens our_slices
at_our_picks = refl
