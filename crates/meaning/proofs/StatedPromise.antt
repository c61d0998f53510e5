-- Kind 9, over the planner's promise: its value is the stated share of kind 1's, it is the best where the divisor is 1, and 0 where no label remains.
-- And q has no influence on any other kind.
-- Assumes nothing.
use mathlib.Core.Path.{◌≡◌, refl, ap, ◌∙◌}
use Prim.Native.Nat.{ℕ, ◌+◌, ◌-◌, ◌*◌, ◌≤◌, zero-le}
use native.Mathlib.Nat.{le_antisymm, zero-mul}
use native.Mathlib.Omega.{arith}
use mathlib.Core.List.{List, [], ◌∷◌}
use lib.ListN.{length}
use Rattle.meaning.specs.Says.{Answer}
use Rattle.meaning.specs.Says as Says
use Rattle.meaning.specs.declared.Way.{Way}
use Rattle.meaning.specs.Lists.{at, sum, total, if}
use Rattle.meaning.specs.Job.{Job, all_kinds, has_q, job_of, kind_of, labels, once, packing, stated_share}
use Rattle.meaning.specs.Cuts.{cut_sum, cut_values, divisor, remain, remain_of, stated_cells, that_fit}
use Rattle.meaning.specs.Lent.{Lent, room_by, room_of}
use Rattle.meaning.specs.Knapsacks.{Best, BestPicks, Fits, MayPick}
use Rattle.meaning.specs.Stated.{StatedPicks, StatedTable, stated_cell}
use Rattle.meaning.specs.Answers.{AnswerNumbers, answer_numbers}
use Rattle.meaning.specs.Solved.{Answered, Gives, Packed, SolvedBy, TableBy}
use Rattle.meaning.proofs.Totals.{zero_total}
use Rattle.meaning.proofs.Remaining.{few_picked, none_fit_sum, remain_none}
use Rattle.meaning.proofs.CutCells.{first_cell}
use Rattle.meaning.proofs.StatedShare.{share_of_best, uncut_best}
use Rattle.meaning.proofs.OneOfEach.{least_shown_unique}
use Rattle.meaning.proofs.EachKind.{refusals}
use Rattle.meaning.proofs.Unique.{One, no_second_choice}
use Rattle.meaning.proofs.Laws.{held_at, some_answer}
use Rattle.meaning.proofs.Budgets.{q_ignored}

-- what a knapsack's numbers are
record Numbers (j : Job) (v w : ℕ) (p : List ℕ) : Type 0 where
  value : v ≡ total j.values p
  weight : w ≡ total j.weights p

packed_numbers : {Choice : List ℕ → Type 0} {j : Job} (v w : ℕ) {p : List ℕ} → Packed Choice j (answer_numbers (Says.Knapsack v w)) p → Numbers j v w p
unfolding answer_numbers
packed_numbers v w g = record {
  value = ap (λ (s : AnswerNumbers). s.value) g.numbers;
  weight = ap (λ (s : AnswerNumbers). s.weight) g.numbers;
}

-- ---- a job of kind 9 that is answered by v and w

module _ (way : Way) (C q : ℕ) (weights values copies : List ℕ) (before after : Lent) (v w : ℕ) where
  abbrev as_nine : Job
  as_nine = job_of 9 (C ∷ q ∷ []) weights values copies

  module _ (solved : SolvedBy way as_nine before (Says.Knapsack v w) after) where
    answered : Answered (room_by way stated_share as_nine) (TableBy way stated_share as_nine) stated_share as_nine before
        (answer_numbers (Says.Knapsack v w)) after
    unfolding job_of kind_of all_kinds answer_numbers refusals
    answered = some_answer stated_share as_nine before after (Says.Knapsack v w) refl refl solved

    abbrev p : List ℕ
    p = answered.content.picks

    packed : Packed (StatedPicks as_nine) as_nine (answer_numbers (Says.Knapsack v w)) p
    unfolding Gives
    packed = answered.gives

    numbers : Numbers as_nine v w p
    numbers = packed_numbers v w packed

    -- the picks' weight is within the budget
    pub stated_fits : w ≤ C
    unfolding StatedPicks job_of
    stated_fits = omega (arith, numbers.weight, packed.picked.one_of.fits.weight)

    -- beside kind 1's answer to the same labels and budget, whoever gave it
    module _ (other : Way) (copies' : List ℕ) (before' after' : Lent) (b x : ℕ)
        (solved' : SolvedBy other (job_of 1 (C ∷ []) weights values copies') before' (Says.Knapsack b x) after') where
      abbrev as_one : Job
      as_one = job_of 1 (C ∷ []) weights values copies'

      packed' : (r : List ℕ) × Packed (BestPicks once as_one (labels as_one) C) as_one (answer_numbers (Says.Knapsack b x)) r
      unfolding job_of kind_of all_kinds answer_numbers refusals Gives
      packed' = let a = some_answer (packing once) as_one before' after' (Says.Knapsack b x) refl refl solved' in (a.content.picks, a.gives)

      abbrev r : List ℕ
      r = packed'.0

      best : Best once as_one (labels as_one) C r
      unfolding BestPicks
      best = packed'.1.picked.one_of

      numbers' : Numbers as_one b x r
      numbers' = packed_numbers b x packed'.1

      -- what fits the one fits the other
      fits_nine : Fits once as_nine (labels as_nine) C r
      unfolding job_of labels MayPick
      fits_nine = record {
        selection = record { one_each = best.fits.selection.one_each; allowed = λ m h. best.fits.selection.allowed m h };
        weight = best.fits.weight;
      }

      fits_one : Fits once as_one (labels as_one) C p
      unfolding job_of labels MayPick StatedPicks
      fits_one =
          let fits = packed.picked.one_of.fits in
          record { selection = record { one_each = fits.selection.one_each; allowed = λ m h. fits.selection.allowed m h }; weight = fits.weight }

      -- q times the value is at least q - 1 times the best value
      pub stated_share_kept : (q - 1) * b ≤ q * v
      unfolding job_of has_q if
      stated_share_kept = rw (numbers.value, numbers'.value) (share_of_best as_nine p packed.picked r fits_nine)

      -- which it never passes
      pub no_more_than_best : v ≤ b
      unfolding job_of
      no_more_than_best = omega (arith, numbers.value, numbers'.value, best.greatest p fits_one)

      -- and is where the divisor is 1
      pub best_uncut : divisor as_nine ≡ 1 → v ≡ b
      unfolding StatedPicks job_of
      best_uncut one =
          le_antisymm no_more_than_best
          (omega (arith, numbers.value, numbers'.value, uncut_best as_nine p packed.picked.one_of one r fits_nine))

    -- where no label remains, every answer is 0, and so is the one cell
    module _ (none : remain as_nine ≡ 0) where
      pub nothing_remains : (v ≡ 0) × (w ≡ 0)
      unfolding StatedPicks
      nothing_remains =
          let few : sum p ≤ remain as_nine = few_picked as_nine p packed.picked.one_of.fits in
          let zeros : sum p ≡ 0 = omega arith in
          (numbers.value ∙ zero_total as_nine.values p zeros, numbers.weight ∙ zero_total as_nine.weights p zeros)

      one_cell : stated_cells as_nine ≡ 1
      unfolding stated_cells cut_sum
      one_cell =
          let nothing : sum (that_fit as_nine.budget as_nine.weights (cut_values as_nine)) ≡ 0 = none_fit_sum as_nine (cut_values as_nine) none in
          rw (none, nothing)

      cells_one : length answered.content.cells ≡ 1
      unfolding room_by room_of
      cells_one = answered.cells_needed ∙ one_cell

      pub cell_0 : at after.cells 0 ≡ 0
      unfolding TableBy StatedTable stated_cell
      cell_0 =
          let width = cut_sum as_nine + 1 in
          let place : remain_of as_nine 0 * width + 0 ≡ 0 = omega (arith, ap (λ (m : ℕ). m * width) (remain_none as_nine), zero-mul width) in
          held_at answered.content.cells before.cells after.cells 0 answered.cells_hold (omega (arith, cells_one))
          ∙ least_shown_unique (rw place at (answered.table_right 0 0 zero-le zero-le)) (first_cell as_nine (cut_values as_nine))

-- ---- other kinds

-- two calls with other q's, on the same slices, give one answer and leave the same
pub q_without_influence : {way : Way} (kind C q q' : ℕ) (weights values copies : List ℕ) → ¬ (kind ≡ 9) → (before t t' : Lent) (a a' : Answer)
    → SolvedBy way (job_of kind (C ∷ q ∷ []) weights values copies) before a t
    → SolvedBy way (job_of kind (C ∷ q' ∷ []) weights values copies) before a' t' → One a a' t t'
q_without_influence {way} kind C q q' weights values copies other before t t' a a' x y =
    no_second_choice {way = way} (job_of kind (C ∷ []) weights values copies) before t t' a a'
    (rw (q_ignored kind weights values copies other C q) x) (rw (q_ignored kind weights values copies other C q') y)
