-- What the cells of a filled table show: the least weight of a selection of the first labels with a total of cut values.
-- Assumes nothing.
use Prim.Native.Nat.{ℕ, zero, suc, ◌+◌, ◌-◌, ◌≤◌, ◌<◌}
use native.Mathlib.Omega.{arith}
use mathlib.Core.List.{List}
use lib.ListN.{length}
use Rattle.meaning.specs.Lists.{at}
use Rattle.meaning.specs.Cells.{LeastShown, no_way}
use Rattle.meaning.specs.Job.{Job}
use Rattle.meaning.specs.Bounds.{most_budget}
use Rattle.meaning.specs.Stated.{CutWeight}
use Rattle.meaning.proofs.CutCells.{first_cell, first_others, cell_aside, cell_short, cell_lesser, cell_past}
use Rattle.rows.proofs.Stores.{by, alone_shows}
use Rattle.stated.specs.LeastWeights.{cell_of, Filled}
use Rattle.stated.proofs.Lightening.{lighter_past, lighter_lesser}
use Rattle.stated.proofs.Filling.{cell_first, cell_same}

module _ (j : Job) (cuts : List ℕ) (width : ℕ) (cells : List ℕ) (small : j.budget ≤ most_budget)
    (filled : Filled j.budget j.weights cuts width (length j.weights) cells) where
  abbrev cell : ℕ → ℕ → ℕ
  cell i t = cell_of j.budget j.weights width cells i t

  pub filled_shows : (i t : ℕ) → i ≤ length j.weights → t < width → LeastShown (CutWeight j cuts i t) (cell i t)
  filled_shows zero t h l =
      rw (cell_first j.budget j.weights cuts width cells filled t)
      (alone_shows 0 no_way width (λ u x. LeastShown (CutWeight j cuts 0 u) x) (first_cell j cuts) (first_others j cuts) cells filled.first t l)
  filled_shows (suc i) t h l =
      let w = at j.weights i in
      let a = at cuts i in
      let here = filled_shows i t (omega arith) l in
      by j.budget w
      (λ heavy. rw (cell_same j.budget j.weights cuts width cells filled i t h heavy) (cell_aside j cuts i t (cell i t) heavy here))
      (λ light. by t a
      (λ short. rw ((filled.next i h light).short t l short) (cell_short j cuts i t (cell i t) short here))
      (λ large.
      let less = cell i (t - a) in
      let rest = filled_shows i (t - a) (omega arith) (omega arith) in
      rw ((filled.next i h light).long t l large) (by j.budget (less + w)
      (λ past. rw (lighter_past j.budget w (cell i t) less past) (cell_past j cuts i t large small (cell i t) less here rest past))
      (λ within. rw (lighter_lesser j.budget w (cell i t) less within) (cell_lesser j cuts i t large small (cell i t) less here rest within)))))
