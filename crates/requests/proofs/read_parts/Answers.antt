-- `requests::read_parts` meets its contract: each way out is one of the laws in proofs/Reading.
use mathlib.Core.Path.{refl, sym}
use native.Mathlib.Omega.{arith}
use Rattle.std.proofs.lemmas.Result.{err_from_is_err_and}
use Rattle.meaning.proofs.Budgets.{some_budget}
use Rattle.numbers.specs.TwoSlices.{list_from}
use Rattle.numbers.proofs.Parts.{part_long}
use Rattle.requests.specs.Reading.{ReadInParts, broken_of, bytes_at}
use Rattle.requests.proofs.Reading.{breaks, whole, cut, within, broken_1, broken_2, broken_3, broken_4, broken_5, left_over, all_read}
use Rattle.requests.proofs.read_parts.Goals as goal

pub returns-in_err-kinds : goal.returns-in_err-kinds
unfolding ReadInParts
returns-in_err-kinds c =
    let p = err_from_is_err_and c.from_residual.result c.from_residual.ensures.1 in
    rw (p.1, p.2) (broken_1 _ (sym c.in_err-kinds.ensures))

pub number_in-kind-requires : goal.number_in-kind-requires
number_in-kind-requires c = omega (arith, part_long _ _ (sym c.in_ok-kinds.ensures))

pub returns-in_err-budgets : goal.returns-in_err-budgets
unfolding ReadInParts
returns-in_err-budgets c =
    let p = err_from_is_err_and c.from_residual-in_err-budgets.result c.from_residual-in_err-budgets.ensures.1 in
    rw (p.1, p.2) (broken_2 _ (sym c.in_ok-kinds.ensures) c.number_in-kind.ensures c.budget_count-count.ensures (sym c.in_err-budgets.ensures))

pub returns-in_err-weights : goal.returns-in_err-weights
unfolding broken_of
returns-in_err-weights c =
    let p = err_from_is_err_and c.from_residual-in_err-weights.result c.from_residual-in_err-weights.ensures.1 in
    breaks _ c.in_err-weights.ensures refl
    (λ e. broken_3 _ (sym c.in_ok-kinds.ensures) c.number_in-kind.ensures c.budget_count-count.ensures (sym c.in_ok-budgets.ensures) (cut _ _ _ e))
    (rw (p.1, p.2))

pub returns-in_err-values : goal.returns-in_err-values
unfolding broken_of
returns-in_err-values c =
    let p = err_from_is_err_and c.from_residual-in_err-values.result c.from_residual-in_err-values.ensures.1 in
    breaks _ c.in_err-values.ensures refl
    (λ e. broken_4 _ (sym c.in_ok-kinds.ensures) c.number_in-kind.ensures c.budget_count-count.ensures
    (sym c.in_ok-budgets.ensures) (whole _ _ _ (sym c.in_ok-weights.ensures)) (cut _ _ _ e))
    (rw (p.1, p.2))

pub returns-in_err-copies : goal.returns-in_err-copies
unfolding broken_of
returns-in_err-copies c =
    let p = err_from_is_err_and c.from_residual-in_err-copies.result c.from_residual-in_err-copies.ensures.1 in
    breaks _ c.in_err-copies.ensures refl
    (λ e. broken_5 _ (sym c.in_ok-kinds.ensures) c.number_in-kind.ensures c.budget_count-count.ensures
    (sym c.in_ok-budgets.ensures) (whole _ _ _ (sym c.in_ok-weights.ensures)) (whole _ _ _ (sym c.in_ok-values.ensures)) (cut _ _ _ e))
    (rw (p.1, p.2))

pub returns-then-copies_end-job : goal.returns-then-copies_end-job
unfolding ReadInParts
returns-then-copies_end-job c =
    left_over _ (sym c.in_ok-kinds.ensures) c.number_in-kind.ensures c.budget_count-count.ensures
    (sym c.in_ok-budgets.ensures) (whole _ _ _ (sym c.in_ok-weights.ensures)) (whole _ _ _ (sym c.in_ok-values.ensures))
    (whole _ _ _ (sym c.in_ok-copies.ensures)) (omega arith)

pub number_in-requires : goal.number_in-requires
number_in-requires c =
    omega (arith, part_long _ _ (sym c.in_ok-budgets.ensures), c.budget_count-count.ensures, some_budget c.number_in-kind.result)

pub overflow_sub-count : goal.overflow_sub-count
overflow_sub-count c = omega (arith, c.budget_count-count.ensures, some_budget c.number_in-kind.result)

pub number_in-requires-2 : goal.number_in-requires-2
number_in-requires-2 c =
    omega (arith, part_long _ _ (sym c.in_ok-budgets.ensures), c.budget_count-count.ensures, some_budget c.number_in-kind.result)

pub returns : goal.returns
unfolding ReadInParts list_from bytes_at
returns c = record {
  read =
      all_read _ (sym c.in_ok-kinds.ensures) c.number_in-kind.ensures c.budget_count-count.ensures (sym c.in_ok-budgets.ensures)
      (whole _ _ _ (sym c.in_ok-weights.ensures)) (whole _ _ _ (sym c.in_ok-values.ensures)) (whole _ _ _ (sym c.in_ok-copies.ensures))
      c.number_in.ensures c.number_in-2.ensures (omega arith);
  weights_within = within _ _ _ _ _ _ (sym c.in_ok-weights.ensures);
  values_within = within _ _ _ _ _ _ (sym c.in_ok-values.ensures);
  copies_within = within _ _ _ _ _ _ (sym c.in_ok-copies.ensures);
}
