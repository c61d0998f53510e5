-- From a job that is not refused to what the functions ask, and from what they leave to what `meaning` promises.
-- Assumes nothing.
use mathlib.Core.Path.{◌≡◌, refl, sym, ap, ◌∙◌, subst}
use Prim.Native.Nat.{ℕ, ◌+◌, ◌≤◌, ◌<◌, min}
use native.Mathlib.Omega.{arith}
use mathlib.Core.List.{List, [], ◌∷◌, ◌++◌}
use lib.ListN.{length, drop}
use borrow.Author.Tests.{lt-ltb, le-ltb}
use Rattle.meaning.specs.Says.{Answer}
use Rattle.meaning.specs.Says as Says
use Rattle.meaning.specs.Lists.{at, sum, if}
use Rattle.meaning.specs.Slices.{Holds}
use Rattle.meaning.specs.Cells.{LeastShown, no_way}
use Rattle.meaning.specs.Job.{Job, Kind, fewest_blocks, block_ways, labels, job_of}
use Rattle.meaning.specs.Lent.{Lent, lent_of, room_by, room_of}
use Rattle.meaning.specs.Bounds.{most_budget}
use Rattle.meaning.specs.Refusals.{rules_of, weight_rules}
use Rattle.meaning.specs.Blocks.{MadeOf, Laid, FewestRow, WaysShown, WaysRow, too_many}
use Rattle.meaning.specs.Answers.{answer_numbers}
use Rattle.meaning.specs.Solved.{Built, Gives, TableBy, Unrefused, a_sum, no_such_sum, ways_answer}
use Rattle.meaning.specs.SolvedIn.{SolvedInCells, SolvedInWords}
use Rattle.meaning.proofs.Valid.{size_rule}
use Rattle.meaning.proofs.Making.{few_blocks}
use Rattle.meaning.proofs.Shown.{at_most_mark, marked_none}
use Rattle.meaning.proofs.Laws.{number_of, kind_number}
use Rattle.meaning.proofs.SolvedIn.{Kept, not_needed, as_long, still_unrefused, holds_front, solved_in_cells, solved_in_words}
use Rattle.blocks.specs.Sizes.{Bounded, FewestGrown, WaysGrown, TraceDown}
use Rattle.blocks.specs.BlocksDoor.{LetIn, blocks_asked, ways_asked}
use Rattle.blocks.proofs.Growing.{grown_fewest, grown_ways}
use Rattle.blocks.proofs.Laying.{fewest_row, down_laid}

-- ---- what a job keeps: both kinds have one set of rules

pub bounded : (k : Kind) (j : Job) (lent : Lent) → rules_of k ≡ rules_of fewest_blocks → Kept k j lent → Bounded (j.budget + 1) j.weights
unfolding rules_of weight_rules
bounded k j lent same keeps =
    let small : j.budget ≤ (rules_of fewest_blocks).budget_bound = rw same at keeps.small in
    record { wide = omega arith; narrow = omega arith; whole = λ i h. size_rule 1 j.weights i h (rw same at keeps.weights_right) }

-- ---- kind 5

module _ (j : Job) (cells picks row : List ℕ) (ok : Unrefused fewest_blocks j (lent_of cells [] picks)) (bounds : Bounded (j.budget + 1) j.weights)
    (long : length row ≡ j.budget + 1) (made : FewestGrown j.weights (j.budget + 1) row) where
  shows : (a : ℕ) → a ≤ j.budget → LeastShown (MadeOf j (labels j) a) (at row a)
  unfolding labels
  shows a h = grown_fewest j (j.budget + 1) bounds row made a (omega arith)

  -- a number of blocks never is the mark for no way
  below : (a x : ℕ) → a ≤ j.budget → MadeOf j (labels j) a x → x < no_way
  unfolding labels most_budget no_way
  below a x h d = omega (arith, few_blocks j (labels j) a x (λ m l. bounds.whole m l) (omega arith) d, bounds.narrow)

  marked : (a : ℕ) → a ≤ j.budget → at row a ≤ no_way
  marked a h = at_most_mark (λ x d. below a x h d) (shows a h)

  -- the table is complete, whatever is written over the picks
  leaves : (a : Answer) (found picks-after : List ℕ) → Gives fewest_blocks j (answer_numbers a) found → Holds found picks picks-after
      → SolvedInCells j cells picks a (row ++ drop (j.budget + 1) cells) picks-after
  unfolding TableBy FewestRow room_by room_of lent_of
  leaves a found picks-after gives in_picks =
      solved_in_cells fewest_blocks j a cells picks (row ++ drop (j.budget + 1) cells) picks-after row found ok refl gives shows long
      (holds_front row cells (j.budget + 1) long) in_picks

  -- where the last cell shows the mark, there is no such sum: the picks are unchanged
  pub no_blocks : (blocks : ℕ) → blocks ≡ at row j.budget → blocks ≡ no_way
      → SolvedInCells j cells picks (Says.Refused 7) (row ++ drop (j.budget + 1) cells) picks
  unfolding Gives Built Holds
  no_blocks blocks e mark =
      let none = marked_none (λ x d. below j.budget x (omega arith) d) (shows j.budget (omega arith)) (sym e ∙ mark) in
      leaves (Says.Refused 7) [] picks
      (no_such_sum (λ q m. none (sum q) (record { picks = q; makes = m; blocks = refl })) refl refl) refl

  -- elsewhere the trace down finds the chosen blocks, and the cell says how many
  pub blocks_laid : (blocks n : ℕ) (found : List ℕ) → blocks ≡ at row j.budget → ¬ (blocks ≡ no_way) → n ≡ labels j
      → TraceDown (at row) j.weights j.budget found
      → SolvedInCells j cells picks (Says.Blocks blocks) (row ++ drop (j.budget + 1) cells) (found ++ drop n picks)
  unfolding Gives Built Laid
  blocks_laid blocks n found e other counts trace =
      let some-way : at row j.budget < no_way = omega (arith, marked j.budget (omega arith)) in
      let laid : Laid j j.budget found = down_laid j (at row) j.budget shows marked found some-way trace in
      let many : blocks ≡ sum found = e ∙ sym (fewest_row j (at row) j.budget shows marked j.budget (omega arith) found laid.one_of) in
      leaves (Says.Blocks blocks) found (found ++ drop n picks)
      (a_sum laid.one_of.makes laid (ap (λ (b : ℕ). answer_numbers (Says.Blocks b)) many))
      (holds_front found picks n (laid.one_of.makes.one_each ∙ sym counts))

-- ---- kind 6

module _ (j : Job) (words row : List ℕ) (ok : Unrefused block_ways j (lent_of [] words [])) (bounds : Bounded (j.budget + 1) j.weights)
    (long : length row ≡ j.budget + 1) (made : WaysGrown j.weights (j.budget + 1) row) where
  ways_shown : (a : ℕ) → a ≤ j.budget → WaysShown j (labels j) a (at row a)
  unfolding labels
  ways_shown a h = grown_ways j (j.budget + 1) bounds row made a (omega arith)

  -- the table is complete, and what is answered goes by the ways for the budget alone
  leaves_ways : (a : Answer) → ((many : ℕ) → at row j.budget ≡ min many too_many → a ≡ ways_answer many)
      → SolvedInWords j words a (row ++ drop (j.budget + 1) words)
  unfolding Gives TableBy WaysRow room_by room_of lent_of
  leaves_ways a right =
      let d = ways_shown j.budget (omega arith) in
      solved_in_words block_ways j a words (row ++ drop (j.budget + 1) words) row ok refl refl
      (record { ways = d.many; how_many = d.how_many; numbers = ap answer_numbers (right d.many d.lesser); none_written = refl })
      ways_shown long (holds_front row words (j.budget + 1) long)

  -- a full cell: too many to count
  pub too_many_lem : (found : ℕ) → found ≡ at row j.budget → found ≡ too_many
      → SolvedInWords j words (Says.Refused 8) (row ++ drop (j.budget + 1) words)
  unfolding ways_answer if
  too_many_lem found e full = leaves_ways (Says.Refused 8) (λ many lesser. rw (le-ltb many too_many (omega arith)))

  -- any other is their number
  pub ways_counted : (found : ℕ) → found ≡ at row j.budget → ¬ (found ≡ too_many)
      → SolvedInWords j words (Says.Ways found) (row ++ drop (j.budget + 1) words)
  unfolding ways_answer if
  ways_counted found e other =
      leaves_ways (Says.Ways found)
      (λ many lesser. let all : found ≡ many = omega arith in rw (lt-ltb many too_many (omega arith)) (ap Says.Ways all))

-- ---- the choice between the two

-- a job of kind 5 asks for blocks
pub asks_blocks : (budget kind : ℕ) (ws cells words picks : List ℕ) → kind ≡ 5 → LetIn (job_of kind (budget ∷ []) ws [] []) (lent_of cells words picks)
    → Unrefused fewest_blocks (job_of 5 (budget ∷ []) ws [] []) (lent_of cells [] picks)
unfolding job_of number_of room_by room_of lent_of
asks_blocks budget kind ws cells words picks e (blocks_asked ok) =
    subst (λ (k : ℕ). Unrefused fewest_blocks (job_of k (budget ∷ []) ws [] []) (lent_of cells [] picks)) e
    (still_unrefused fewest_blocks (job_of kind (budget ∷ []) ws [] []) (lent_of cells words picks) (lent_of cells [] picks)
    (as_long refl) (not_needed refl) (as_long refl) ok)
asks_blocks budget kind ws cells words picks e (ways_asked ok) = absurd (omega (arith, kind_number kind block_ways ok.of_kind))

-- and another for ways
pub asks_ways : (budget kind : ℕ) (ws cells words picks : List ℕ) → ¬ (kind ≡ 5)
    → LetIn (job_of kind (budget ∷ []) ws [] []) (lent_of cells words picks)
    → (kind ≡ 6) × Unrefused block_ways (job_of 6 (budget ∷ []) ws [] []) (lent_of [] words [])
unfolding job_of number_of room_by room_of lent_of
asks_ways budget kind ws cells words picks other (blocks_asked ok) = absurd (other (kind_number kind fewest_blocks ok.of_kind))
asks_ways budget kind ws cells words picks other (ways_asked ok) =
    let six : kind ≡ 6 = kind_number kind block_ways ok.of_kind in (
      six,
      subst (λ (k : ℕ). Unrefused block_ways (job_of k (budget ∷ []) ws [] []) (lent_of [] words [])) six
          (still_unrefused block_ways (job_of kind (budget ∷ []) ws [] []) (lent_of cells words picks) (lent_of [] words [])
          (not_needed refl) (as_long refl) (not_needed refl) ok),
    )
