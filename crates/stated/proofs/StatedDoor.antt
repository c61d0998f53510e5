-- From a job that is not refused to what the functions ask, and from what they leave to what `meaning` promises.
-- Assumes nothing.
use mathlib.Core.Path.{◌≡◌, refl, sym, ap, ◌∙◌}
use Prim.Native.Nat.{ℕ, ◌+◌, ◌*◌, ◌/◌, ◌≤◌, ◌<◌, max}
use native.Mathlib.Nat.{le_refl}
use native.Mathlib.Omega.{arith}
use mathlib.Core.Bool.{true}
use mathlib.Core.List.{List, [], ◌++◌}
use lib.Dec.{leb}
use lib.ListN.{length, drop}
use mir.Facts.{and_yes, leb_yes}
use Rattle.meaning.specs.Says.{Answer}
use Rattle.meaning.specs.Says as Says
use Rattle.meaning.specs.Lists.{total}
use Rattle.meaning.specs.Cells.{LeastShown, no_way}
use Rattle.meaning.specs.Job.{Job, job_of, labels, once, stated_share}
use Rattle.meaning.specs.Lent.{lent_of, room_by, room_of}
use Rattle.meaning.specs.Bounds.{most_budget, most_q, least_q}
use Rattle.meaning.specs.Refusals.{rules_of, knapsack_rules, q_fits, job_refusal}
use Rattle.meaning.specs.Knapsacks.{Fits}
use Rattle.meaning.specs.Cuts.{remain_of, remain, that_fit, greatest_of, greatest_value, divisor, cut_by, cut_values, cut_sum, stated_cells}
use Rattle.meaning.specs.Stated.{CutWeight, StatedPicks, StatedTable, stated_cell, stated_order}
use Rattle.meaning.specs.Answers.{answer_numbers}
use Rattle.meaning.specs.Solved.{Gives, TableBy, Unrefused}
use Rattle.meaning.specs.SolvedIn.{SolvedInCells}
use Rattle.meaning.proofs.Shown.{marked_none}
use Rattle.meaning.proofs.Remaining.{total_fitting}
use Rattle.meaning.proofs.Valid.{Passed, has_passed, is_cleared, valid_by, each_number, value_rule}
use Rattle.meaning.proofs.SolvedIn.{kept, holds_front, solved_in_cells}
use Rattle.rows.proofs.Stores.{by}
use Rattle.stated.specs.LeastWeights.{cell_of, Roomy}
use Rattle.stated.specs.ReadOff.{Valued, ReadOff}
use Rattle.stated.proofs.Measuring.{one_of_sum}
use Rattle.stated.proofs.Showing.{filled_shows}
use Rattle.stated.proofs.Lightest.{ChosenFor, lightest_weighs, chosen_best}
use Rattle.stated.proofs.Tracing.{traced_picks}

-- ---- what a job keeps

pub record Kept (j : Job) : Type 0 where
  pub valued : Valued j.weights j.values
  pub small : j.budget ≤ most_budget
  pub few_parts : j.q ≤ most_q

passed_keeps : (j : Job) (later : ℕ) → Passed (rules_of stated_share) j later → Kept j
unfolding rules_of knapsack_rules q_fits labels
passed_keeps j later p =
    let ok = valid_by once true j later p in
    let q = (each_number (knapsack_rules once true) j p.numbers).q in
    record {
      valued = record { few = ok.few; one_each = ok.valued; cheap = value_rule once j ok };
      small = ok.small;
      few_parts = leb_yes (and_yes (leb least_q j.q) (leb j.q most_q) q).1;
    }

-- once 3 to 5 were asked
pub asked_keeps : (j : Job) → job_refusal (rules_of stated_share) j 0 ≡ 0 → Kept j
asked_keeps j e = passed_keeps j 0 (has_passed (rules_of stated_share) j 0 e)

-- and with room
pub record KeptIn (j : Job) (cells picks : List ℕ) : Type 0 where
  pub job : Kept j
  pub cells_room : stated_cells j ≤ length cells
  pub picks_room : labels j ≤ length picks

pub keeps : (j : Job) (cells picks : List ℕ) → Unrefused stated_share j (lent_of cells [] picks) → KeptIn j cells picks
unfolding room_by room_of lent_of
keeps j cells picks ok =
    let lent = lent_of cells [] picks in
    let room = kept stated_share j lent ok in
    record {
      job = passed_keeps j _ (is_cleared _ stated_share j lent ok.no_refusal).keeps;
      cells_room = room.cells_room;
      picks_room = room.picks_room;
    }

-- ---- its measures, in the numbers that the code holds

pub measured_divisor : (j : Job) (p m d : ℕ) → p ≡ greatest_of (that_fit j.budget j.weights j.values) → m ≡ remain j
    → d ≡ max 1 (p / (m * j.q)) → d ≡ divisor j
unfolding divisor greatest_value
measured_divisor j p m d ep em e = rw (← ep, ← em) e

pub divisor_positive : (j : Job) → 0 < divisor j
unfolding divisor
divisor_positive j = omega arith

-- with d the divisor and rows of a width, the table has just the needed cells
module _ (j : Job) (d width : ℕ) (is_divisor : d ≡ divisor j) (is-width : width ≡ cut_sum j + 1) where
  pub roomy : Roomy j.budget j.weights (cut_by d j.values) width (stated_cells j)
  unfolding stated_cells remain remain_of labels job_of cut_sum cut_values
  roomy = record {
    wide = omega arith;
    within = λ i h light. rw (is_divisor, is-width)
        (omega (arith, one_of_sum j.budget j.weights (cut_by (divisor j) j.values) i h light));
    whole = rw is-width;
  }

  -- ---- what is read off such a table

  module _ (small : j.budget ≤ most_budget) (table found : List ℕ) (a : Answer)
      (read : ReadOff j.budget j.weights j.values (cut_by d j.values) width table found a) where
    abbrev cell : ℕ → ℕ → ℕ
    cell i t = cell_of j.budget j.weights width table i t

    -- its cells show the least weights
    shows : (i t : ℕ) → i ≤ labels j → t < width → LeastShown (CutWeight j (cut_values j) i t) (cell i t)
    unfolding labels cut_values
    shows i t h l = rw (← is_divisor) (filled_shows j (cut_by d j.values) width table small read.filled i t h l)

    right : StatedTable j table
    unfolding StatedTable stated_cell remain_of job_of
    right i t h l = rw (← is-width) (shows i t h (omega arith))

    -- no selection that fits has a higher total
    none_above : (r : List ℕ) → Fits once j (labels j) j.budget r → total (cut_values j) r ≤ read.top
    unfolding cut_sum labels no_way most_budget
    none_above r f =
        let t = total (cut_values j) r in
        let within : t < width = omega (arith, total_fitting j (cut_values j) r f) in
        by read.top t
        (λ more. absurd (marked_none (λ x h. omega (arith, h.heavy, h.fits.weight)) (shows (labels j) t (le_refl (labels j)) within)
        (read.highest.above t more within) (total j.weights r) (record { picks = r; fits = f; cut = refl; heavy = refl })))
        (λ le. le)

    chosen : ChosenFor j (cut_values j) (labels j) read.top found
    unfolding labels cut_values
    chosen =
        traced_picks j (cut_values j) width cell small shows read.top read.highest.inside read.highest.reached found
        (rw is_divisor at read.traced)

    gives : Gives stated_share j (answer_numbers a) found
    unfolding Gives StatedPicks stated_order labels
    gives = record {
      picked = chosen_best j (cut_values j) read.top none_above found chosen;
      numbers = ap answer_numbers (read.says
          ∙ ap (λ (w : ℕ). Says.Knapsack (total j.values found) w)
          (sym (lightest_weighs j (cut_values j) (labels j) read.top _ found
          (shows (labels j) read.top (le_refl (labels j)) read.highest.inside) chosen.one_of)));
    }

    -- the promise, where they stand in front of what was lent
    pub solved : (cells picks : List ℕ) (needed n : ℕ) → Unrefused stated_share j (lent_of cells [] picks) → length table ≡ needed
        → needed ≡ stated_cells j → n ≡ labels j → SolvedInCells j cells picks a (table ++ drop needed cells) (found ++ drop n picks)
    unfolding TableBy room_by room_of lent_of
    solved cells picks needed n ok long is-needed counts =
        solved_in_cells stated_share j a cells picks (table ++ drop needed cells) (found ++ drop n picks) table found ok refl gives right
        (long ∙ is-needed) (holds_front table cells needed long)
        (holds_front found picks n (chosen.one_of.fits.selection.one_each ∙ sym counts))
