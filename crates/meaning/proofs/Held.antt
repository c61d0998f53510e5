-- What an answer is held to: each part of the promise as a law over every job that no refusal meets, and on the proved trials the answer itself.
-- Assumes nothing.
use mathlib.Core.Path.{◌∙◌, ◌≡◌, ap, refl, subst, sym}
use mathlib.Core.Option.{some-injective}
use Prim.Native.Nat.{ℕ, ◌≤◌}
use native.Mathlib.Omega.{arith}
use mathlib.Core.Bool.{Bool, true, false}
use mathlib.Core.List.{List, [], ◌∷◌}
use lib.Dec.{lit≤, ltb}
use lib.ListN.{length}
use Rattle.meaning.specs.Says.{Answer}
use Rattle.meaning.specs.Says as Says
use Rattle.meaning.specs.declared.Way.{Way}
use Rattle.meaning.specs.Lists.{at, if, total}
use Rattle.meaning.specs.Slices.{Holds}
use Rattle.meaning.specs.Job.{Job, Kind, Knapsack, block_ways, labels, labels_behind, once, packing, sharing, subset_sums}
use Rattle.meaning.specs.Lent.{Lent}
use Rattle.meaning.specs.Bytes.{job_bytes, read_job, readable}
use Rattle.meaning.specs.Knapsacks.{BestPicks, Fits, OneRow}
use Rattle.meaning.specs.Sums.{TotalCount}
use Rattle.meaning.specs.Blocks.{WaysFor, too_many}
use Rattle.meaning.specs.Shares.{spare_of}
use Rattle.meaning.specs.Answers.{AnswerNumbers, answer_numbers}
use Rattle.meaning.specs.Solved.{Gives, OnceTable, Solved, SolvedBy, SolvedBytesBy, TableBy, Unrefused, UnrefusedBy, Weighed, a_sum, no_such_sum}
use Rattle.meaning.specs.Solved.{ways_answer}
use Rattle.meaning.specs.Trials.{Goes, solve}
use Rattle.meaning.proofs.OneOfEach.{best_value_unique}
use Rattle.meaning.proofs.EachKind.{Late, late, not_said, refusals}
use Rattle.meaning.proofs.Laws.{bytes_solved, held_at, solved_says, unrefused_answered}
use Rattle.meaning.proofs.Small.{picked, picked_out}
use Rattle.meaning.proofs.Opens.{opens}
use Rattle.meaning.proofs.Cases.{case_a, case_c, tried, trial_facts}

-- the ways of an answer are those that were counted
same_ways : (n w : ℕ) (b : Bool) → answer_numbers (Says.Ways n) ≡ answer_numbers (if b (Says.Ways w) (Says.Refused 8)) → n ≡ w
unfolding if answer_numbers refusals
same_ways n w true e = ap (λ (s : AnswerNumbers). s.ways) e
same_ways n w false e = absurd (not_said 8 (Says.Ways n) refl (sym e))

-- ---- what an answer is held to, for every job that isn't refused

module _ {way : Way} (j : Job) (before after : Lent) where
  pub refused_only : (k : Kind) (r : ℕ) → UnrefusedBy way k j before → SolvedBy way j before (Says.Refused r) after → Late k j r
  refused_only k r ok h = late k j r _ (unrefused_answered k j before after (Says.Refused r) ok h).gives

  -- demand 2's maximum
  pub nothing_worth_more : (k : Knapsack) (v w : ℕ) → UnrefusedBy way (packing k) j before → SolvedBy way j before (Says.Knapsack v w) after
      → (q : List ℕ) → Fits k j (labels j) j.budget q → total j.values q ≤ v
  unfolding Gives BestPicks answer_numbers
  nothing_worth_more k v w ok h q fits =
      let x = unrefused_answered (packing k) j before after (Says.Knapsack v w) ok h in
      let value : v ≡ total j.values x.content.picks = ap (λ (s : AnswerNumbers). s.value) x.gives.numbers in
      rw value (x.gives.picked.one_of.greatest q fits)

  pub totals_counted : (can : Bool) (n : ℕ) → UnrefusedBy way subset_sums j before → SolvedBy way j before (Says.Sums can n) after → TotalCount j n
  unfolding Gives answer_numbers
  totals_counted can n ok h =
      let g = (unrefused_answered subset_sums j before after (Says.Sums can n) ok h).gives in
      let same : n ≡ g.totals = ap (λ (s : AnswerNumbers). s.totals) g.numbers in
      rw same g.how_many

  pub ways_counted : (n : ℕ) → UnrefusedBy way block_ways j before → SolvedBy way j before (Says.Ways n) after → WaysFor j (labels j) j.budget n
  unfolding Gives ways_answer
  ways_counted n ok h =
      let g = (unrefused_answered block_ways j before after (Says.Ways n) ok h).gives in
      let same : n ≡ g.ways = same_ways n g.ways (ltb g.ways too_many) g.numbers in
      rw same g.how_many

  pub spare_left : (n : ℕ) → UnrefusedBy way sharing j before → SolvedBy way j before (Says.Shares n) after → n ≡ spare_of j
  unfolding Gives answer_numbers
  spare_left n ok h = ap (λ (s : AnswerNumbers). s.spare) (unrefused_answered sharing j before after (Says.Shares n) ok h).gives.numbers

  -- kind 8's weight is C
  pub weight_is_c : (w : ℕ) → UnrefusedBy way labels_behind j before → SolvedBy way j before (Says.Weight w) after → w ≡ j.budget
  unfolding Gives Weighed answer_numbers refusals
  weight_is_c w ok h = go (unrefused_answered labels_behind j before after (Says.Weight w) ok h).gives
    where
      go : {p : List ℕ} → Weighed j (answer_numbers (Says.Weight w)) p → w ≡ j.budget
      go (a_sum weighs behind e) = ap (λ (s : AnswerNumbers). s.exact) e ∙ weighs.weight
      go (no_such_sum none e written) = absurd (not_said 7 (Says.Weight w) refl (sym e))

-- ---- whoever solves a proved trial answers what it says, and writes its picks

pub trial_says : {way : Way} (j : Job) (a : Answer) (p : List ℕ) → Goes (solve j a p) → (k : Kind) (before after : Lent) (a' : Answer)
    → UnrefusedBy way k j before → SolvedBy way j before a' after → (a' ≡ a) × Holds p before.picks after.picks
unfolding Goes
trial_says j a p (k', m) k before after a' ok h =
    let same : k ≡ k' = some-injective k k' (sym ok.of_kind ∙ m.unrefused.of_kind) in
    solved_says k j before after a' a p ok (subst (λ (x : Kind). Gives x j (answer_numbers a) p) (sym same) m.answer) h

pub tried_goes : (k : Kind) → Goes (solve (tried k).job (tried k).answer (tried k).picks)
tried_goes k = (trial_facts k).goes

-- each trial is read back from its bytes
pub tried_back : (k : Kind) → read_job (job_bytes (tried k).job) ≡ readable (tried k).job
tried_back k = (trial_facts k).back

-- so whoever solves the bytes of one answers it
pub tried_says : {way : Way} (k : Kind) (before after : Lent) (a : Answer) → UnrefusedBy way k (tried k).job before
    → SolvedBytesBy way (job_bytes (tried k).job) before a after
    → (a ≡ (tried k).answer) × Holds (tried k).picks before.picks after.picks
tried_says k before after a ok h =
    trial_says (tried k).job (tried k).answer (tried k).picks (tried_goes k) k before after a ok
    (bytes_solved (job_bytes (tried k).job) (tried k).job before after a (tried_back k) h)

-- ---- case A: cell 7 is 9 after the call, whatever stood there

-- 1 1 0 is what the meanings choose
chosen_a : BestPicks once case_a 3 7 (1 ∷ 1 ∷ 0 ∷ [])
unfolding opens picked
chosen_a = picked_out once case_a (1 ∷ 1 ∷ 0 ∷ []) tt

last_cell : (before after : Lent) (a : Answer) → Unrefused (packing once) case_a before → Solved case_a before a after → at after.cells 7 ≡ 9
unfolding TableBy OnceTable OneRow opens BestPicks
last_cell before after a ok h =
    let x = unrefused_answered (packing once) case_a before after a ok h in
    let long : length x.content.cells ≡ 8 = x.cells_needed in
    held_at x.content.cells before.cells after.cells 7 x.cells_hold (omega (arith, long))
    ∙ best_value_unique (x.table_right.best 7 (lit≤ tt)) (record { picks = 1 ∷ 1 ∷ 0 ∷ []; best = chosen_a.one_of; value = refl })

-- ---- greed by value per byte, on case C: label 0 is worth 7 for 6 bytes and is kept first, and then no other fits; labels 1 and 2 are worth 10

chosen_c : BestPicks once case_c 3 10 (0 ∷ 1 ∷ 1 ∷ [])
unfolding opens picked
chosen_c = picked_out once case_c (0 ∷ 1 ∷ 1 ∷ []) tt

greed_misses : (before after : Lent) (w : ℕ) → Unrefused (packing once) case_c before → ¬ Solved case_c before (Says.Knapsack 7 w) after
unfolding opens BestPicks
greed_misses before after w ok h =
    let ten : 10 ≤ 7 = nothing_worth_more case_c before after once 7 w ok h (0 ∷ 1 ∷ 1 ∷ []) chosen_c.one_of.fits in
    omega arith
