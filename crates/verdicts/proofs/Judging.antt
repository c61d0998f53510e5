-- The verdict on picks and cells, refusal by refusal; and what each leaves known for the next.
-- Assumes nothing.
use mathlib.Core.Path.{◌≡◌, refl, sym, ap, ◌∙◌}
use mathlib.Core.Option.{none, some}
use Prim.Native.Nat.{ℕ, ◌+◌, ◌-◌, ◌≤◌, ◌<◌}
use native.Mathlib.Nat.{suc-mul}
use native.Mathlib.Omega.{arith}
use mathlib.Core.List.{List}
use lib.Dec.{lit<, ltb}
use lib.ListN.{length}
use borrow.Author.Tests.{lt-ltb, le-ltb, ltb-false, eq-eqb, ne_eqb}
use Rattle.meaning.specs.Judges.{Accepted, Refused}
use Rattle.meaning.specs.Lists.{at, if, total}
use Rattle.meaning.specs.Job.{Job, Knapsack, labels, once, limited, free}
use Rattle.meaning.specs.Lent.{cell_count}
use Rattle.meaning.specs.Bounds.{most_copies, most_of_one}
use Rattle.meaning.specs.Knapsacks.{cell_number}
use Rattle.meaning.specs.Certificates.{cell_at, certificate_cell, certificate_cells, low_cell, misvalued, most_picks, over_picked}
use Rattle.meaning.specs.Certificates.{overweight, unless_found, verdict_on_cells}
use Rattle.meaning.proofs.Valid.{Valid, copies_rule}
use Rattle.meaning.proofs.Searches.{first_none}
use Rattle.verdicts.specs.Asked.{FewPicks}
use Rattle.verdicts.proofs.Taken.{copied}

-- ---- 12 to 15, in this order

module _ (k : Knapsack) (j : Job) (picks cells : List ℕ) where
  pub over_12 : (i : ℕ) → over_picked k j picks ≡ some i → Refused 12 i ≡ verdict_on_cells k j picks cells
  unfolding verdict_on_cells unless_found
  over_12 i e = rw e

  module _ (none-12 : over_picked k j picks ≡ none) where
    pub heavy_13 : j.budget < total j.weights picks → Refused 13 0 ≡ verdict_on_cells k j picks cells
    unfolding verdict_on_cells unless_found overweight if
    heavy_13 h = rw (none-12, lt-ltb j.budget (total j.weights picks) h)

    module _ (light : total j.weights picks ≤ j.budget) where
      pub low_14 : (m : ℕ) → low_cell k j cells ≡ some m → Refused 14 m ≡ verdict_on_cells k j picks cells
      unfolding verdict_on_cells unless_found overweight if
      low_14 m e = rw (none-12, le-ltb j.budget (total j.weights picks) light, e)

      module _ (none-14 : low_cell k j cells ≡ none) (value : ℕ) (value_is : value ≡ cell_at k j cells (labels j) j.budget) where
        pub other_15 : ¬ (value ≡ total j.values picks) → Refused 15 0 ≡ verdict_on_cells k j picks cells
        unfolding verdict_on_cells unless_found overweight misvalued if
        other_15 h =
            rw (
              none-12,
              le-ltb j.budget (total j.weights picks) light,
              none-14,
              ne_eqb (cell_at k j cells (labels j) j.budget) (total j.values picks) (λ e. h (value_is ∙ e)),
            )

        pub accepts : value ≡ total j.values picks → Accepted value ≡ verdict_on_cells k j picks cells
        unfolding verdict_on_cells unless_found overweight misvalued if
        accepts h =
            rw (
              none-12,
              le-ltb j.budget (total j.weights picks) light,
              none-14,
              eq-eqb (cell_at k j cells (labels j) j.budget) (total j.values picks) (sym value_is ∙ h),
              h,
            )

-- ---- what each leaves known

-- after 12 no pick has more than 16 bits, so that sums over them stay small
module _ {k : Knapsack} (j : Job) (v : Valid k j) where
  most_16 : (i : ℕ) → i < labels j → most_picks k j i < 65_536
  unfolding most_picks most_copies most_of_one
  most_16 i h = by k v
    where
      by : (s : Knapsack) → Valid s j → most_picks s j i < 65_536
      by once u = lit< tt
      by limited u = omega (arith, copies_rule limited j u i (omega (arith, copied u refl)))
      by free u = lit< tt

  module _ (picks : List ℕ) (long : length picks ≡ labels j) (none-12 : over_picked k j picks ≡ none) where
    few_picks : (each : List ℕ) → length each ≡ labels j → FewPicks each picks
    unfolding over_picked
    few_picks each all = record {
      one_each = all ∙ sym long;
      few = omega (arith, v.few);
      small = λ i h.
          let here : i < labels j = omega arith in
          let within = ltb-false (most_picks k j i) (at picks i) (first_none (λ l. ltb (most_picks k j l) (at picks l)) (labels j) none-12 i here) in
          omega (arith, within, most_16 i here);
    }

    pub few_weights : FewPicks j.weights picks
    unfolding labels
    few_weights = few_picks j.weights refl

    pub few_values : FewPicks j.values picks
    few_values = few_picks j.values v.valued

-- 15 asks about the last cell
module _ (j : Job) (cells : List ℕ) where
  pub last_cell : (k : Knapsack) → length cells ≡ certificate_cells k j → at cells (length cells - 1) ≡ cell_at k j cells (labels j) j.budget
  unfolding certificate_cells cell_count cell_at certificate_cell cell_number
  last_cell once long = ap (at cells) (omega (arith, suc-mul (labels j) (j.budget + 1)))
  last_cell limited long = ap (at cells) (omega (arith, suc-mul (labels j) (j.budget + 1)))
  last_cell free long = ap (at cells) (omega arith)

  pub some_cell : (k : Knapsack) → length cells ≡ certificate_cells k j → 1 ≤ length cells
  unfolding certificate_cells cell_count
  some_cell once long = omega (arith, suc-mul (labels j) (j.budget + 1))
  some_cell limited long = omega (arith, suc-mul (labels j) (j.budget + 1))
  some_cell free long = omega arith
