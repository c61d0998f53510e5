-- Wherever neither gets refusal 6 the two ways give the same answer, value, weight and picks, refusals too.
-- Assumes nothing.
use mathlib.Core.Path.{◌≡◌, ap, refl, subst, sym, ◌∙◌}
use mathlib.Core.Option.{Option, none, some}
use Prim.Native.Nat.{suc, zero, ℕ}
use native.Mathlib.Decide.{ℕ_discrete}
use native.Mathlib.Omega.{arith}
use mathlib.Core.Bool.{Bool, true, false, not}
use mathlib.Core.List.{List, []}
use Rattle.meaning.specs.Says.{Answer}
use Rattle.meaning.specs.Says as Says
use Rattle.meaning.specs.declared.Way.{Way}
use Rattle.meaning.specs.declared.Way.TheVariants.{Full}
use Rattle.meaning.specs.Lists.{if}
use Rattle.meaning.specs.Slices.{Holds}
use Rattle.meaning.specs.Job.{Job, Kind, job_of, kind_of, subset_sums}
use Rattle.meaning.specs.Lent.{Lent, Room, room_by}
use Rattle.meaning.specs.Refusals.{bounds_fit, job_refusal, kind_refusal, lists_fit, numbers_fit, room_fits, rules_of}
use Rattle.meaning.specs.Bytes.{JobRead, read_job, readable, unreadable}
use Rattle.meaning.specs.Answers.{answer_numbers}
use Rattle.meaning.specs.Solved.{Outcome, SolvedAs, SolvedBy, SolvedBytesBy, SolvedLists, SolvedRead, TableBy, TurnedDown}
use Rattle.meaning.specs.Agreement.{SameAnswer}
use Rattle.meaning.proofs.EachKind.{gives_unique, not_once, one_way}
use Rattle.meaning.proofs.Laws.{answers_its_number}
use Rattle.meaning.proofs.Unique.{answer_numbers_unique}

-- ---- a kind that isn't kind 1 goes one way

-- what is promised of it by one way is promised by the other
pub either_way : {way : Way} (other : Way) (j : Job) (before after : Lent) (a : Answer) → ¬ (j.kind_number ≡ 1) → SolvedBy way j before a after
    → SolvedBy other j before a after
unfolding SolvedLists SolvedAs
either_way {way} other j before after a not-1 h = record { kept = go (kind_of j.kind_number) refl h.kept }
  where
    go : (k : Option Kind) → kind_of j.kind_number ≡ k → SolvedAs (room_by way) (TableBy way) k j before (answer_numbers a) after
        → SolvedAs (room_by other) (TableBy other) k j before (answer_numbers a) after
    go none e x = x
    go (some k) e x =
        let same = one_way way other k j (not_once j k e not-1) in
        let by : Room → (Lent → Type 0) → Type 0 =
        λ room table. Outcome (kind_refusal room k j before) room table k j before (answer_numbers a) after in
        subst (λ (room : Room). by room (TableBy other k j)) same.room
        (subst (λ (table : Lent → Type 0). by (room_by way k j) table) same.table x)

-- by the full way a job is solved as by any way that is the full one where the job is of kind 1
pub from_full : (way : Way) (j : Job) (before after : Lent) (a : Answer) → (j.kind_number ≡ 1 → way ≡ Full) → SolvedBy Full j before a after
    → SolvedBy way j before a after
from_full way j before after a full-if-1 h =
    elim (ℕ_discrete j.kind_number 1) [ yes one ↦ rw (full-if-1 one) h | no other ↦ either_way way j before after a other h ]

-- ---- refusal 6 alone depends on the way

-- the lowest of 3 to 6, or else what comes later
unfoldable given : (lists bounds numbers room : Bool) → ℕ → ℕ
given lists bounds numbers room later = if (not lists) 3 (if (not bounds) 4 (if (not numbers) 5 (if (not room) 6 later)))

one_given : (lists bounds numbers one other : Bool) (later : ℕ) → ¬ (given lists bounds numbers one later ≡ 6)
    → ¬ (given lists bounds numbers other later ≡ 6) → given lists bounds numbers one later ≡ given lists bounds numbers other later
unfolding given if
one_given false bounds numbers one other later x y = refl
one_given true false numbers one other later x y = refl
one_given true true false one other later x y = refl
one_given true true true true true later x y = refl
one_given true true true false other later x y = absurd (x refl)
one_given true true true true false later x y = absurd (y refl)

one_number : (room room' : Room) (k : Kind) (j : Job) (before before' : Lent) → ¬ (kind_refusal room k j before ≡ 6)
    → ¬ (kind_refusal room' k j before' ≡ 6) → kind_refusal room k j before ≡ kind_refusal room' k j before'
unfolding kind_refusal job_refusal given
one_number room room' k j before before' x y =
    let r = rules_of k in
    one_given (lists_fit r j) (bounds_fit r j) (numbers_fit r j) (room_fits room before) (room_fits room' before') _ x y

-- ---- what comes of two calls on one job with the same number

-- nothing written
none_held : (before after : List ℕ) → after ≡ before → Holds [] before after
unfolding Holds
none_held before after e = e

module _ (k : Kind) (j : Job) (before after before' after' : Lent) (a a' : Answer) where
  abbrev Same : Type 0
  Same = SameAnswer a a' before.picks after.picks before'.picks after'.picks

  both_down : {r : ℕ} → TurnedDown r before (answer_numbers a) after → TurnedDown r before' (answer_numbers a') after' → Same
  both_down x y = record {
    answer = answer_numbers_unique (x.numbers ∙ sym y.numbers);
    picks = [];
    in_first = none_held _ _ (ap (λ (l : Lent). l.picks) x.nothing_written);
    in_second = none_held _ _ (ap (λ (l : Lent). l.picks) y.nothing_written);
  }

  module _ (room room' : Room) (table table' : Lent → Type 0) where
    same_outcome : (r : ℕ) → Outcome r room table k j before (answer_numbers a) after → Outcome r room' table' k j before' (answer_numbers a') after' → Same
    unfolding Outcome
    same_outcome zero x y =
        let (same, said) = gives_unique k j (answer_numbers a) (answer_numbers a') x.content.picks y.content.picks x.gives y.gives in
        record {
          answer = answer_numbers_unique said;
          picks = x.content.picks;
          in_first = x.picks_hold;
          in_second = rw same y.picks_hold;
        }
    same_outcome (suc r) x y = both_down x y

-- a call whose number is 6 answers it
answers_6 : (room : Room) (table : Lent → Type 0) (k : Kind) (j : Job) (before after : Lent) (a : Answer) (r : ℕ)
    → Outcome r room table k j before (answer_numbers a) after → r ≡ 6 → a ≡ Says.Refused 6
answers_6 room table k j before after a r x e = answers_its_number room table k j before after a r x (λ none. absurd (omega (arith, e))) ∙ ap Says.Refused e

-- ---- so the two ways agree

-- on one job of lists
pub ways_agree : {way other : Way} (j : Job) (before after before' after' : Lent) (a a' : Answer) → SolvedBy way j before a after
    → SolvedBy other j before' a' after' → ¬ (a ≡ Says.Refused 6) → ¬ (a' ≡ Says.Refused 6)
    → SameAnswer a a' before.picks after.picks before'.picks after'.picks
unfolding SolvedLists SolvedAs
ways_agree {way} {other} j before after before' after' a a' x y not-6 not-6' = go (kind_of j.kind_number) x.kept y.kept
  where
    go : (k : Option Kind) → SolvedAs (room_by way) (TableBy way) k j before (answer_numbers a) after
        → SolvedAs (room_by other) (TableBy other) k j before' (answer_numbers a') after'
        → SameAnswer a a' before.picks after.picks before'.picks after'.picks
    go none u v = both_down subset_sums j before after before' after' a a' u v
    go (some k) u v =
        let room = room_by way k j in
        let room' = room_by other k j in
        let same : kind_refusal room k j before ≡ kind_refusal room' k j before' =
        one_number room room' k j before before' (λ e. not-6 (answers_6 room (TableBy way k j) k j before after a _ u e))
        (λ e. not-6' (answers_6 room' (TableBy other k j) k j before' after' a' _ v e)) in
        same_outcome k j before after before' after' a a' room room' (TableBy way k j) (TableBy other k j) _ u
        (subst (λ (r : ℕ). Outcome r room' (TableBy other k j) k j before' (answer_numbers a') after') (sym same) v)

-- and on job bytes
pub ways_agree_bytes : {way other : Way} (bytes : List ℕ) (before after before' after' : Lent) (a a' : Answer) → SolvedBytesBy way bytes before a after
    → SolvedBytesBy other bytes before' a' after' → ¬ (a ≡ Says.Refused 6) → ¬ (a' ≡ Says.Refused 6)
    → SameAnswer a a' before.picks after.picks before'.picks after'.picks
unfolding SolvedRead
ways_agree_bytes {way} {other} bytes before after before' after' a a' x y not-6 not-6' = go (read_job bytes) x.kept y.kept
  where
    go : (r : JobRead) → SolvedRead (room_by way) (TableBy way) r before a after → SolvedRead (room_by other) (TableBy other) r before' a' after'
        → SameAnswer a a' before.picks after.picks before'.picks after'.picks
    go (unreadable place) u v = both_down subset_sums (job_of 0 [] [] [] []) before after before' after' a a' u v
    go (readable j) u v = ways_agree {way = way} {other = other} j before after before' after' a a' (record { kept = u }) (record { kept = v }) not-6 not-6'
