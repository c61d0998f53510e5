-- Kinds 4 and 8 agree on which totals are reached: a law of the two promises, so of whoever keeps them.
-- Assumes nothing.
use mathlib.Core.Path.{◌∙◌, ◌≡◌, ap, refl, subst, sym}
use mathlib.Core.Logic.{◌↔◌}
use mathlib.Core.Option.{some}
use Prim.Native.Nat.{◌/◌, ◌<◌, ◌≤◌, suc, zero, ℕ}
use native.Mathlib.Nat.{le_refl}
use native.Mathlib.Omega.{arith}
use mathlib.Core.Bool.{Bool, false, not, true}
use mathlib.Core.List.{List, [], ◌∷◌}
use lib.ListN.{length}
use Rattle.meaning.specs.Says.{Answer}
use Rattle.meaning.specs.Says as Says
use Rattle.meaning.specs.Lists.{at, if, total}
use Rattle.meaning.specs.Counting.{Counted}
use Rattle.meaning.specs.Cells.{LeastShown, no_way}
use Rattle.meaning.specs.Bounds.{most_labels}
use Rattle.meaning.specs.Job.{Job, Kind, all_kinds, job_of, kind_of, labels, labels_behind, subset_sums}
use Rattle.meaning.specs.Lent.{Lent, room_by, room_for, room_of}
use Rattle.meaning.specs.Refusals.{bounds_fit, claims_fit, job_refusal, kind_refusal, lists_fit, numbers_fit, room_fits, rules_of, weight_rules}
use Rattle.meaning.specs.Bytes.{read_job, readable}
use Rattle.meaning.specs.Knapsacks.{MayPick}
use Rattle.meaning.specs.Sums.{Reached, ReachedWithin, Tells, TotalCount, Weighs, YesOrNo, bit, is_not, is_so}
use Rattle.meaning.specs.Behind.{FirstRow, ReachedBy}
use Rattle.meaning.specs.Answers.{answer_numbers}
use Rattle.meaning.specs.Solved.{Answered, Gives, Outcome, Solved, SolvedBytes, TableBy, TableHolds, Unrefused, Weighed, a_sum, no_such_sum}
use Rattle.meaning.specs.Agreement.{Agreed, GetsPast6, Unmarked}
use Rattle.meaning.proofs.Counting.{counted_iff}
use Rattle.meaning.proofs.Shown.{shown_by, shown_some}
use Rattle.meaning.proofs.Reaching.{reached_as, reached_more}
use Rattle.meaning.proofs.EachKind.{not_said, refusals}
use Rattle.meaning.proofs.Unique.{answer_numbers_unique}
use Rattle.meaning.proofs.Laws.{bytes_solved, held_at, kind_solved, unrefused_answered}
use Rattle.meaning.proofs.SolvedIn.{kept}

-- ---- an answer that is no refusal with 1 to 6 is to a job that none of them meets

if_most : (b : Bool) (x y : ℕ) → x ≤ 6 → y ≤ 6 → if b x y ≤ 6
unfolding if
if_most true x y h l = h
if_most false x y h l = l

-- where the claims' sum isn't asked, no refusal before the table is above 6
at_most_6 : (k : Kind) (j : Job) (lent : Lent) → claims_fit (rules_of k) j ≡ true → kind_refusal (room_for k j) k j lent ≤ 6
unfolding kind_refusal job_refusal if
at_most_6 k j lent unasked =
    rw unasked
    (if_most (not (lists_fit (rules_of k) j)) 3 _ (omega arith)
    (if_most (not (bounds_fit (rules_of k) j)) 4 _ (omega arith)
    (if_most (not (numbers_fit (rules_of k) j)) 5 _ (omega arith)
    (if_most (not (room_fits (room_for k j) lent)) 6 0 (omega arith) (omega arith)))))

past_6 : (k : Kind) (j : Job) (before after : Lent) (a : Answer) → kind_of j.kind_number ≡ some k → claims_fit (rules_of k) j ≡ true
    → Solved j before a after → GetsPast6 a → Unrefused k j before
unfolding GetsPast6 Outcome
past_6 k j before after a of_kind unasked solved past =
    go (kind_refusal (room_for k j) k j before) refl (at_most_6 k j before unasked)
  where
    go : (r : ℕ) → kind_refusal (room_for k j) k j before ≡ r → r ≤ 6 → Unrefused k j before
    go zero e h = record { of_kind = of_kind; no_refusal = e }
    go (suc r) e h =
        let refused = kind_solved j before k (suc r) a after of_kind e solved in
        absurd (past (suc r) (omega arith) h (answer_numbers_unique refused.numbers))

-- ---- the same weights reach the same totals, whatever the kind

same_reached : (j j' : Job) (i t : ℕ) → j.weights ≡ j'.weights → Reached j i t → Reached j' i t
unfolding MayPick
same_reached j j' i t same r =
    reached_as r.picks (record { one_each = r.weighs.selection.one_each; allowed = r.weighs.selection.allowed })
    (ap (λ (ws : List ℕ). total ws r.picks) (sym same) ∙ r.weighs.weight)

-- ---- the two tables

-- kind 4's job and what it left in the words, kind 8's and what it left in the cells
module _ (j j' : Job) (words cells : List ℕ) (same : j.weights ≡ j'.weights) (few : labels j' < no_way)
    (bits : (t : ℕ) → t ≤ j.budget → Tells (ReachedWithin j (labels j) t) (bit words t))
    (firsts : (t : ℕ) → t ≤ j.budget → LeastShown (ReachedBy j' (labels j') t) (at cells t)) where
  as_many : labels j ≡ labels j'
  unfolding labels
  as_many = ap length same

  to_eight : (t : ℕ) → Reached j (labels j) t → Reached j' (labels j') t
  to_eight t r = subst (λ (n : ℕ). Reached j' n t) as_many (same_reached j j' (labels j) t same r)

  to_four : (t : ℕ) → Reached j' (labels j') t → Reached j (labels j) t
  to_four t r = subst (λ (n : ℕ). Reached j n t) (sym as_many) (same_reached j' j (labels j') t (sym same) r)

  -- a cell isn't the mark exactly where its total is reached
  unmarked_reached : (t : ℕ) → t ≤ j.budget → Unmarked cells t → Reached j (labels j) t
  unfolding Unmarked
  unmarked_reached t h unmarked =
      let d = shown_some (firsts t h) unmarked in
      to_four t (reached_more j' (at cells t) (labels j') t d.among d.reached)

  reached_unmarked : (t : ℕ) → t ≤ j.budget → Reached j (labels j) t → Unmarked cells t
  unfolding Unmarked
  reached_unmarked t h r marked =
      let d = shown_by (firsts t h) (labels j') (record { among = le_refl (labels j'); reached = to_eight t r }) in
      omega (arith, d.among)

  -- and so does its bit tell
  bits_agree : (t : ℕ) → t ≤ j.budget → (bit words t ≡ 1) ↔ Unmarked cells t
  bits_agree t h = (λ set. forth (bits t h) set, λ unmarked. back (bits t h) (unmarked_reached t h unmarked))
    where
      forth : Tells (ReachedWithin j (labels j) t) (bit words t) → bit words t ≡ 1 → Unmarked cells t
      forth (is_so r e) set = reached_unmarked t h r.reached
      forth (is_not none e) set = absurd (omega arith)

      back : Tells (ReachedWithin j (labels j) t) (bit words t) → Reached j (labels j) t → bit words t ≡ 1
      back (is_so r e) reached = e
      back (is_not none e) reached = absurd (none (record { reached = reached; within = h }))

  totals_agree : (n : ℕ) → TotalCount j n → Counted (λ (t : ℕ). (t ≤ j.budget) × Unmarked cells t) n
  unfolding TotalCount
  totals_agree n count =
      counted_iff count (λ t r. (r.within, reached_unmarked t r.within r.reached))
      (λ t u. record { reached = unmarked_reached t u.0 u.1; within = u.0 })

-- ---- the two answers

-- kind 4's answer to one job and kind 8's to the other
module _ (j j' : Job) (before after before' after' : Lent) (four eight : Answer) (same : j.weights ≡ j'.weights) (C : j.budget ≡ j'.budget)
    (ok : Unrefused subset_sums j before) (ok' : Unrefused labels_behind j' before')
    (solved : Solved j before four after) (solved' : Solved j' before' eight after') where
  abbrev x : Answered (room_for subset_sums j) (TableHolds subset_sums j) subset_sums j before (answer_numbers four) after
  x = unrefused_answered subset_sums j before after four ok solved

  abbrev y : Answered (room_for labels_behind j') (TableHolds labels_behind j') labels_behind j' before' (answer_numbers eight) after'
  y = unrefused_answered labels_behind j' before' after' eight ok' solved'

  few : labels j' < no_way
  unfolding rules_of weight_rules most_labels no_way
  few = omega (arith, (kept labels_behind j' before' ok').few)

  -- each bit, and each cell, as the calls left them
  bits_left : (t : ℕ) → t ≤ j.budget → Tells (ReachedWithin j (labels j) t) (bit after.words t)
  unfolding TableBy room_by room_of bit
  bits_left t h =
      let there : t / 64 < length x.content.words = omega (arith, x.words_needed) in
      rw (held_at x.content.words before.words after.words (t / 64) x.words_hold there) (x.table_right.set t (omega arith))

  firsts_left : (t : ℕ) → t ≤ j.budget → LeastShown (ReachedBy j' (labels j') t) (at after'.cells t)
  unfolding TableBy FirstRow room_by room_of
  firsts_left t h =
      rw (held_at y.content.cells before'.cells after'.cells t y.cells_hold (omega (arith, y.cells_needed)))
      (y.table_right t (omega arith))

  -- yes, and no refusal with 7, both where C is reached
  yes_reached : (b : Bool) → Tells (Reached j (labels j) j.budget) (if b 1 0) → (b ≡ true) ↔ Reached j (labels j) j.budget
  unfolding if
  yes_reached true (is_so r e) = (λ t. r, λ r'. refl)
  yes_reached true (is_not none e) = absurd (omega arith)
  yes_reached false (is_so r e) = absurd (omega arith)
  yes_reached false (is_not none e) = (λ t. absurd (let c : ◌≡◌ {A = ℕ} 0 1 = ap (λ (b : Bool). if b 1 0) t in omega arith), λ r. absurd (none r))

  not_7_reached : (p : List ℕ) → Gives labels_behind j' (answer_numbers eight) p → (¬ (eight ≡ Says.Refused 7)) ↔ Reached j (labels j) j.budget
  unfolding Gives Weighed refusals answer_numbers
  not_7_reached p (a_sum weighs behind e) = (
    λ other.
        let r : Reached j' (labels j') j.budget = rw C (record { picks = p; weighs = weighs }) in
        to_four j j' after.words after'.cells same few bits_left firsts_left j.budget r,
    λ r refused. not_said 7 (Says.Weight (total j'.weights p)) refl (sym (ap answer_numbers refused) ∙ e),
  )
  not_7_reached p (no_such_sum none e written) = (
    λ other. absurd (other (answer_numbers_unique e)),
    λ r refused.
        let r' = to_eight j j' after.words after'.cells same few bits_left firsts_left j.budget r in
        none r'.picks (subst (λ (t : ℕ). Weighs j' (labels j') t r'.picks) C r'.weighs),
  )

  agree : Agreed j.budget after.words four after'.cells eight
  unfolding Gives YesOrNo
  agree =
      let g = x.gives in
      let (yes-so, so-yes) = yes_reached g.yes g.tells in
      let (not-7-so, so-not-7) = not_7_reached y.content.picks y.gives in
      record {
        bits = bits_agree j j' after.words after'.cells same few bits_left firsts_left;
        yes = g.yes;
        totals = g.totals;
        answer = answer_numbers_unique g.numbers;
        yes_unless_7 = (λ t. so-not-7 (yes-so t), λ n. so-yes (not-7-so n));
        how_many = totals_agree j j' after.words after'.cells same few bits_left firsts_left g.totals g.how_many;
      }

-- for one list of weights and one C, where neither kind is refused with 1 to 6
module _ (C : ℕ) (weights values copies values' copies' : List ℕ) (before after before' after' : Lent) (four eight : Answer) where
  abbrev as_four : Job
  as_four = job_of 4 (C ∷ []) weights values copies

  abbrev as_eight : Job
  as_eight = job_of 8 (C ∷ []) weights values' copies'

  pub kinds_agree : Solved as_four before four after → GetsPast6 four → Solved as_eight before' eight after' → GetsPast6 eight
      → Agreed C after.words four after'.cells eight
  unfolding job_of kind_of all_kinds claims_fit rules_of weight_rules
  kinds_agree solved past solved' past' =
      agree as_four as_eight before after before' after' four eight refl refl
      (past_6 subset_sums as_four before after four refl refl solved past)
      (past_6 labels_behind as_eight before' after' eight refl refl solved' past') solved solved'

  -- and where the jobs come as bytes
  pub kinds_agree_bytes : (fourB eightB : List ℕ) → read_job fourB ≡ readable as_four → read_job eightB ≡ readable as_eight
      → SolvedBytes fourB before four after → GetsPast6 four → SolvedBytes eightB before' eight after' → GetsPast6 eight
      → Agreed C after.words four after'.cells eight
  kinds_agree_bytes fourB eightB reads reads' solved past solved' past' =
      kinds_agree (bytes_solved fourB as_four before after four reads solved) past
      (bytes_solved eightB as_eight before' after' eight reads' solved') past'
