-- From a job that is not refused to what the functions ask, and from what they leave to what `meaning` promises.
-- Assumes nothing.
use mathlib.Core.Path.{◌≡◌, refl, sym, ap, ◌∙◌}
use Prim.Native.Nat.{ℕ, ◌+◌, ◌≤◌, ◌<◌}
use native.Mathlib.Nat.{le_refl}
use native.Mathlib.Omega.{arith}
use mathlib.Core.List.{List, [], ◌++◌}
use lib.ListN.{length, drop}
use Rattle.meaning.specs.Says.{Answer}
use Rattle.meaning.specs.Says as Says
use Rattle.meaning.specs.Lists.{at}
use Rattle.meaning.specs.Slices.{Holds}
use Rattle.meaning.specs.Cells.{LeastShown, no_way}
use Rattle.meaning.specs.Job.{Job, labels_behind, labels}
use Rattle.meaning.specs.Lent.{lent_of, room_by, room_of}
use Rattle.meaning.specs.Bounds.{most_labels}
use Rattle.meaning.specs.Refusals.{rules_of, weight_rules}
use Rattle.meaning.specs.Behind.{ReachedBy, FirstRow, Behind}
use Rattle.meaning.specs.Answers.{answer_numbers}
use Rattle.meaning.specs.Solved.{Weighed, Gives, TableBy, Unrefused, a_sum, no_such_sum}
use Rattle.meaning.specs.SolvedIn.{SolvedInCells}
use Rattle.meaning.proofs.Shown.{marked_none}
use Rattle.meaning.proofs.SolvedIn.{kept, holds_front, solved_in_cells}
use Rattle.behind.specs.Firsts.{FirstsGrown, Traceable, TraceOff}
use Rattle.behind.proofs.Growing.{grown_firsts}
use Rattle.behind.proofs.Tracing.{traceable, trace_behind}

-- what a job keeps
pub record Kept (j : Job) (cells picks : List ℕ) : Type 0 where
  pub few : labels j ≤ most_labels
  pub cells_room : j.budget + 1 ≤ length cells
  pub picks_room : labels j ≤ length picks

pub keeps : (j : Job) (cells picks : List ℕ) → Unrefused labels_behind j (lent_of cells [] picks) → Kept j cells picks
unfolding room_by room_of lent_of rules_of weight_rules
keeps j cells picks ok =
    let job = kept labels_behind j (lent_of cells [] picks) ok in
    record { few = job.few; cells_room = job.cells_room; picks_room = job.picks_room }

-- so no number of labels is the mark
below_mark : (n : ℕ) → n ≤ most_labels → n < no_way
unfolding most_labels no_way
below_mark n h = omega arith

module _ (j : Job) (cells picks row : List ℕ) (ok : Unrefused labels_behind j (lent_of cells [] picks))
    (long : length row ≡ j.budget + 1) (made : FirstsGrown j.weights (j.budget + 1) row) where
  few : labels j < no_way
  few = below_mark (labels j) (keeps j cells picks ok).few

  shows : (t : ℕ) → t ≤ j.budget → LeastShown (ReachedBy j (labels j) t) (at row t)
  shows t h = grown_firsts j (j.budget + 1) few row made t (omega arith)

  -- the table is complete, whatever is written over the picks
  leaves : (a : Answer) (found picks-after : List ℕ) → Gives labels_behind j (answer_numbers a) found → Holds found picks picks-after
      → SolvedInCells j cells picks a (row ++ drop (j.budget + 1) cells) picks-after
  unfolding TableBy FirstRow room_by room_of lent_of
  leaves a found picks-after gives in_picks =
      solved_in_cells labels_behind j a cells picks (row ++ drop (j.budget + 1) cells) picks-after row found ok refl gives shows long
      (holds_front row cells (j.budget + 1) long) in_picks

  -- where the last cell shows the mark, there is no such sum: the picks are unchanged
  pub none_behind : at row j.budget ≡ no_way → SolvedInCells j cells picks (Says.Refused 7) (row ++ drop (j.budget + 1) cells) picks
  unfolding Gives Weighed Holds
  none_behind mark =
      let none = marked_none (λ x d. omega (arith, d.among, few)) (shows j.budget (omega arith)) mark in
      leaves (Says.Refused 7) [] picks
      (no_such_sum (λ q d. none (labels j) (record { among = le_refl (labels j); reached = record { picks = q; weighs = d } })) refl refl) refl

  -- elsewhere the picks can be read off, and are the chosen ones
  module _ (unmarked : ¬ (at row j.budget ≡ no_way)) where
    pub can_trace : Traceable (at row) j.weights (length row)
    can_trace = traceable j (at row) j.budget few shows (length row) long unmarked

    pub labels_found : (n : ℕ) (found : List ℕ) → n ≡ labels j → TraceOff (at row) j.weights j.budget 0 found
        → SolvedInCells j cells picks (Says.Weight j.budget) (row ++ drop (j.budget + 1) cells) (found ++ drop n picks)
    unfolding Gives Weighed Behind
    labels_found n found counts trace =
        let behind : Behind j (labels j) j.budget found = trace_behind j (at row) j.budget few shows unmarked found trace in
        leaves (Says.Weight j.budget) found (found ++ drop n picks)
        (a_sum behind.one_of behind (ap (λ (w : ℕ). answer_numbers (Says.Weight w)) (sym behind.one_of.weight)))
        (holds_front found picks n (behind.one_of.selection.one_each ∙ sym counts))
