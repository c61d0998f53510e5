-- `stated::measure` meets its contract: the definitions' numbers one after another.
use mathlib.Core.Path.{◌≡◌, ap, ap₂}
use Prim.Native.Nat.{ℕ, ◌+◌, ◌*◌}
use mathlib.Core.List.{List, [], ◌∷◌}
use Rattle.meaning.specs.Job.{Job, job_of, labels, has_q}
use Rattle.meaning.specs.Lists.{if}
use Rattle.meaning.specs.Cuts.{remain_of, remain, divisor, cut_values, cut_sum, stated_cells}
use Rattle.stated.proofs.StatedDoor.{measured_divisor}
use Rattle.stated.proofs.measure.Goals as goal

pub returns : goal.returns
unfolding cut_sum cut_values has_q if job_of labels remain remain_of stated_cells
returns c =
    let values : List ℕ = c.args.values.now in
    let weights : List ℕ = c.args.weights.now in
    let job : Job = job_of 9 (c.args.budget ∷ c.args.q ∷ []) weights values [] in
    let count_is : c.count_remaining-m.result ≡ remain job = c.count_remaining-m.ensures.0 in
    let divisor_is : c.divisor_of-divisor.result ≡ divisor job =
    measured_divisor job c.greatest_value-p.result c.count_remaining-m.result c.divisor_of-divisor.result
    c.greatest_value-p.ensures count_is c.divisor_of-divisor.ensures in
    let sum_is : c.cut_sum-sum.result ≡ cut_sum job = rw divisor_is at c.cut_sum-sum.ensures in (
      divisor_is,
      (ap (λ (t : ℕ). t + 1) sum_is, ap₂ (λ (m t : ℕ). (m + 1) * (t + 1)) count_is sum_is),
    )
