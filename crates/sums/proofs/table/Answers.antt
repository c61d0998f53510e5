-- `sums::table` meets its contract: the words are filled and trimmed, and the answer is read off them.
use mathlib.Core.List.{[], ◌∷◌}
use mathlib.Core.Path.{◌∙◌}
use native.Mathlib.Omega.{arith}
use lib.ListN.{length}
use Rattle.meaning.specs.Job.{job_of, labels}
use Rattle.meaning.specs.Bounds.{most_budget}
use Rattle.numbers.specs.Lists.{weights_from}
use Rattle.sums.proofs.Meant.{bit_table, tabled}
use Rattle.sums.proofs.table.Goals as goal

pub count_totals-totals-requires : goal.count_totals-totals-requires
unfolding most_budget
count_totals-totals-requires c =
    omega (arith, c.requires, c.fill.auto.words, c.trim.auto.words)

pub returns : goal.returns
unfolding job_of labels
returns c =
    let yes = c.is_set-yes in
    let a = c.args in
    let j = weights_from 4 (a.budget ∷ []) a.weights.now in
    let words = c.trim.new.words in
    let kept = c.fill.auto.words in
    tabled j words (length words) (c.trim.auto.words ∙ kept ∙ c.requires.1)
    (bit_table j (length a.words.now) c.fill.new.words words c.requires.1 c.fill.ensures (rw kept at c.trim.ensures)
    (λ m. omega (arith, c.slice_known-3-1.given m)))
    yes.result c.count_totals-totals.result yes.ensures c.count_totals-totals.ensures
