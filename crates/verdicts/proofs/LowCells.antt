-- The search for the first cell at fault: rule 14 is kept below a cell, and a run of cells that breaks it is narrowed by halves.
-- Assumes nothing.
use mathlib.Core.Path.{◌≡◌, refl, sym, ap, subst, ◌∙◌}
use mathlib.Core.Option.{none}
use Prim.Native.Nat.{ℕ, ◌+◌, ◌-◌, ◌≤◌, ◌<◌, ◌/◌, min}
use native.Mathlib.Decide.{dec_lt}
use native.Mathlib.Omega.{arith}
use mathlib.Core.Bool.{Bool, true, false}
use mathlib.Core.List.{List}
use lib.ListN.{length}
use Rattle.meaning.specs.Lists.{if}
use Rattle.meaning.specs.Job.{Job, Knapsack}
use Rattle.meaning.specs.Certificates.{certificate_cells, first, low_cell, some_of, too_low}
use Rattle.meaning.proofs.Searches.{first_none, first_passes, first_start, none_first, none_passes, passing}
use Rattle.std.specs.Prelude.{Option, Some, None}
use Rattle.verdicts.specs.Asked.{CellsRead, Run, Together, knapsack_in}
use Rattle.verdicts.specs.Searching.{place_of}
use Rattle.verdicts.proofs.LowRows.{tabled_not_3, together_less, together_next, together_start, run_there}

-- where a run is searched from, by what was told of it
pub from_start : {low : Bool} (from end : ℕ) → low ≡ true → from ≡ if low from end
unfolding if
from_start from end e = rw e

pub from_end : {low : Bool} (from end : ℕ) → low ≡ false → end ≡ if low from end
unfolding if
from_end from end e = rw e

-- more than one is left
pub two_left : (kept end : ℕ) → kept < end → ¬ (end - kept ≡ 1) → kept + 1 < end
two_left kept end more not-one = elim (dec_lt (kept + 1) end) [
  | yes two ↦ two
  | no one ↦ absurd (not-one (omega arith))
]

-- and one in the middle parts them
pub middle_between : (kept end : ℕ) → kept < end → ¬ (end - kept ≡ 1) → kept < kept + (end - kept) / 2 × kept + (end - kept) / 2 < end
middle_between kept end more not-one = let two = two_left kept end more not-one in (omega (arith, two), omega (arith, two))

module _ (k : Knapsack) (j : Job) (cells : List ℕ) where
  -- some cell from one on and below another is at fault
  abbrev pub low_between : ℕ → ℕ → Bool
  low_between from end = some_of (λ (m : ℕ). too_low k j cells (from + m)) (end - from)

  -- nothing was found yet, and rule 14 is kept at every cell below m
  pub record KeptBelow (found : Option ℕ) (m : ℕ) : Type 0 where
    pub nowhere : found ≡ None
    pub kept : first (too_low k j cells) m ≡ none

  pub kept_start : KeptBelow None 0
  kept_start = record { nowhere = refl; kept = first_start (too_low k j cells) }

  -- some more that keep it
  kept_on : {found : Option ℕ} (from m end : ℕ) → from ≤ m → KeptBelow found m → low_between from end ≡ false → KeptBelow found end
  kept_on from m end h b none_low = record {
    nowhere = b.nowhere;
    kept = none_first (too_low k j cells) end
        (λ c inside. elim (dec_lt c m) [
          | yes below ↦ first_none (too_low k j cells) m b.kept c below
          | no above ↦
              let place : from + (c - from) ≡ c = omega arith in
              sym (ap (too_low k j cells) place) ∙ none_passes (λ (x : ℕ). too_low k j cells (from + x)) (end - from) none_low (c - from) (omega arith)
        ]);
  }

  -- of the cells from `from` on and below `last`: they keep the rule; or some below `end` doesn't, and all below `kept` do
  pub data Narrowed (found : Option ℕ) (from last kept end : ℕ) : Type 0 where
    all_kept : kept ≡ last → end ≤ last → KeptBelow found last → Narrowed found from last kept end
    one_low : from ≤ kept → kept < end → end ≤ last → low_between from end ≡ true → KeptBelow found kept → Narrowed found from last kept end

  -- a run is searched from its start, or not at all
  pub narrow_start : {found : Option ℕ} (from last start : ℕ) → from < last → start ≡ if (low_between from last) from last → KeptBelow found from
      → Narrowed found from last start last
  unfolding if
  narrow_start {found} from last start filled start_is b = by (low_between from last) refl start_is
    where
      by : (low : Bool) → low_between from last ≡ low → start ≡ if low from last → Narrowed found from last start last
      by true e s = one_low (omega arith) (omega arith) (omega arith) e (subst (λ (m : ℕ). KeptBelow found m) (sym s) b)
      by false e s = all_kept s (omega arith) (kept_on from from last (omega arith) b e)

  module _ {found : Option ℕ} {from last kept end : ℕ} where
    -- no more than `last` is asked about
    pub narrow_within : Narrowed found from last kept end → end ≤ last
    narrow_within (all_kept e h b) = h
    narrow_within (one_low f l h low b) = h

    module _ (more : kept < end) where
      pub narrow_from : Narrowed found from last kept end → from ≤ kept
      narrow_from (all_kept e h b) = absurd (omega arith)
      narrow_from (one_low f l h low b) = f

      -- the half up to a cell in the middle breaks the rule, or keeps it
      pub half_low : (middle : ℕ) → kept < middle → middle < end → low_between from middle ≡ true → Narrowed found from last kept end
          → Narrowed found from last kept middle
      half_low middle above below low (all_kept e h b) = absurd (omega arith)
      half_low middle above below low (one_low f l h one b) = one_low f above (omega arith) low b

      pub half_kept : (middle : ℕ) → kept < middle → middle < end → low_between from middle ≡ false → Narrowed found from last kept end
          → Narrowed found from last middle end
      half_kept middle above below none_low (all_kept e h b) = absurd (omega arith)
      half_kept middle above below none_low (one_low f l h one b) = one_low (omega arith) below h one (kept_on from kept middle f b none_low)

      -- the half that is asked about next
      pub half_run : ¬ (end - kept ≡ 1) → Run k j from last → Narrowed found from last kept end → Run k j from (kept + (end - kept) / 2)
      half_run not-one run b =
          let middle = middle_between kept end more not-one in
          let within : kept + (end - kept) / 2 ≤ last = omega (arith, middle.1, narrow_within b) in
          record {
            some = omega (arith, middle.0, narrow_from b);
            inside = omega (arith, within, run.inside);
            together = together_less j k from last (kept + (end - kept) / 2) within run.together;
          }

      -- one is left
      pub found_low : end - kept ≡ 1 → last ≤ certificate_cells k j → Narrowed found from last kept end → place_of (Some kept) ≡ low_cell k j cells
      unfolding place_of low_cell
      found_low one_left inside (all_kept e h b) = absurd (omega arith)
      found_low one_left inside (one_low f l h one b) =
          let p = passing (λ (m : ℕ). too_low k j cells (from + m)) (end - from) one in
          let place : from + p.place ≡ kept = here p.place p.inside p.passes in
          sym (first_passes (too_low k j cells) kept b.kept (sym (ap (too_low k j cells) place) ∙ p.passes) (certificate_cells k j) (omega arith))
        where
          here : (m : ℕ) → m < end - from → too_low k j cells (from + m) ≡ true → from + m ≡ kept
          here m within passes = elim (dec_lt (from + m) kept) [
            | yes below ↦ let never : true ≡ false = sym passes ∙ first_none (too_low k j cells) kept b.kept (from + m) below in
                let z : ◌≡◌ {A = ℕ} 0 1 = cc in absurd (omega arith)
            | no above ↦ omega arith
          ]

    -- none is left
    pub run_passed : end ≤ kept → Narrowed found from last kept end → KeptBelow found last
    run_passed past (all_kept e h b) = b
    run_passed past (one_low f l h one b) = absurd (omega arith)

  -- no cell is left
  pub none_found : {found : Option ℕ} (from : ℕ) → certificate_cells k j ≤ from → KeptBelow found from → place_of found ≡ low_cell k j cells
  unfolding place_of low_cell
  none_found from past b =
      ap place_of b.nowhere
      ∙ sym (none_first (too_low k j cells) (certificate_cells k j) (λ i h. first_none (too_low k j cells) from b.kept i (omega arith)))

-- ---- row after row, with `count` cells in all; `from` is a row's start, or past the last

module _ (kind : ℕ) (j : Job) (cells : List ℕ) where
  abbrev k : Knapsack
  k = knapsack_in kind

  -- a row starts here, or no cell is left; and rule 14 is kept at every cell before
  pub record RowsKept (found : Option ℕ) (from count : ℕ) : Type 0 where
    pub together : Together k j (min from count) (min from count)
    pub kept : KeptBelow k j cells found (min from count)

  pub rows_start : (count : ℕ) → RowsKept None 0 count
  rows_start count =
      let first : min 0 count ≡ 0 = omega arith in
      record { together = rw first (together_start j k); kept = rw first (kept_start k j cells) }

  module _ (read : CellsRead k j cells) (count : ℕ) (counted : length cells ≡ count) where
    many : certificate_cells k j ≡ count
    many = sym read.long ∙ counted

    pub rows_end : {found : Option ℕ} (from : ℕ) → count ≤ from → RowsKept found from count → place_of found ≡ low_cell k j cells
    rows_end from past b = none_found k j cells (min from count) (omega (arith, many)) b.kept

    module _ {found : Option ℕ} (run from last : ℕ) (width : ¬ (kind ≡ 3) → run ≡ j.budget + 1) (left : from < count)
        (last_is : last ≡ min (from + run) count) (b : RowsKept found from count) where
      here : min from count ≡ from
      here = omega (arith, left)

      row_starts : Together k j from from
      row_starts = rw here at b.together

      -- the cells that are passed at once
      pub rows_run : 1 ≤ run → Run k j from last
      rows_run some = run_there j run k (λ t. width (tabled_not_3 kind t)) from last count some left many last_is row_starts

      pub rows_narrow : 1 ≤ run → (start : ℕ) → start ≡ if (low_between k j cells from last) from last
          → Narrowed k j cells found from last start last
      rows_narrow some start start_is = narrow_start k j cells from last start (rows_run some).some start_is (rw here at b.kept)

      -- none of them is left
      pub rows_next : {found_now : Option ℕ} (kept end : ℕ) → end ≤ kept → Narrowed k j cells found_now from last kept end
          → RowsKept found_now (from + run) count
      rows_next kept end past n =
          let on : min (from + run) count ≡ last = sym last_is in
          record {
            together = rw on
                (together_next j run k (λ t. width (tabled_not_3 kind t)) from last (omega (arith, last_is, many)) (omega (arith, left, many)) row_starts);
            kept = rw on (run_passed k j cells past n);
          }
