-- Kind 9 on a small job: the picks can be tested over all lists of counts, and the table cell by cell.
-- Assumes nothing.
use mathlib.Core.Path.{◌≡◌, subst}
use mathlib.Core.Logic.{inl, inr}
use Prim.Native.Nat.{ℕ, suc, ◌≤◌, suc-le-suc}
use native.Mathlib.Nat.{le_antisymm, le_of_eq, le_of_lt}
use native.Mathlib.Omega.{arith}
use mathlib.Core.Bool.{Bool, ◌&&◌, ◌||◌, not}
use mathlib.Core.List.{List}
use lib.Dec.{T, eqb, leb, ltb}
use mir.Facts.{and_yes, eqb_no, eqb_yes, leb_yes, ltb_yes, or_yes, yes_and, yes_eqb, yes_leb}
use Rattle.meaning.specs.Lists.{at, total}
use Rattle.meaning.specs.Cells.{LeastShown, no_way, none_shown, shown}
use Rattle.meaning.specs.Job.{Job, labels, once}
use Rattle.meaning.specs.Knapsacks.{Fits}
use Rattle.meaning.specs.Cuts.{cut_sum, cut_values, remain_of}
use Rattle.meaning.specs.Stated.{CutBest, CutWeight, StatedPicks, StatedTable, stated_cell, stated_order}
use Rattle.meaning.proofs.Tests.{Within, ◌implies◌, all, all_out, below, below_out, implied, or_right}
use Rattle.meaning.proofs.Small.{as_good, fitting, is_chosen, is_selection, limits, limits_hold, limits_right, once_limits, selection_out}
use Rattle.meaning.proofs.Small.{selects, selects_out, well_settled}
use Rattle.meaning.proofs.SmallTables.{some, some_out}

module _ (j : Job) where
  abbrev cut : List ℕ → ℕ
  cut p = total (cut_values j) p

  abbrev weight : List ℕ → ℕ
  weight p = total j.weights p

  once_fits : {i : ℕ} {q : List ℕ} → Fits once j i j.budget q → Within (once_limits j i) q
  unfolding limits_right
  once_fits {i} {q} f = limits_hold once j i j.budget q tt f.selection f.weight

  -- ---- the picks

  -- p has a greater total of cut values than r; or as great a one, and weighs no more
  abbrev no_worse : List ℕ → List ℕ → Bool
  no_worse p r = ltb (cut r) (cut p) || (eqb (cut r) (cut p) && leb (weight p) (weight r))

  no_worse_cut : (p r : List ℕ) → T (no_worse p r) → cut r ≤ cut p
  no_worse_cut p r t =
      elim (or_yes (ltb (cut r) (cut p)) (eqb (cut r) (cut p) && leb (weight p) (weight r)) t) [
        | inl less ↦ le_of_lt (ltb_yes less)
        | inr tie ↦ le_of_eq (eqb_yes (and_yes (eqb (cut r) (cut p)) (leb (weight p) (weight r)) tie).0)
      ]

  no_worse_weight : (p r : List ℕ) → T (no_worse p r) → cut r ≡ cut p → weight p ≤ weight r
  no_worse_weight p r t e =
      elim (or_yes (ltb (cut r) (cut p)) (eqb (cut r) (cut p) && leb (weight p) (weight r)) t) [
        | inl less ↦ let below : suc (cut r) ≤ cut p = ltb_yes less in absurd (omega arith)
        | inr tie ↦ leb_yes (and_yes (eqb (cut r) (cut p)) (leb (weight p) (weight r)) tie).1
      ]

  module _ (p : List ℕ) where
    abbrev stated_chosen : Bool
    unfolding is_chosen limits
    stated_chosen = is_chosen stated_order (labels j) (once_limits j (labels j)) (fitting j j.budget) no_worse p

    -- p is the picks of the job
    unfoldable pub is_stated : Bool
    unfolding is_selection stated_chosen
    is_stated = is_selection once j p && (fitting j j.budget p && stated_chosen)

    pub stated_out : T is_stated → StatedPicks j p
    unfolding is_stated StatedPicks stated_chosen
    stated_out t =
        let (s, t₁) = and_yes (is_selection once j p) (fitting j j.budget p && stated_chosen) t in
        let (w, c) = and_yes (fitting j j.budget p) stated_chosen t₁ in
        let fits : Fits once j (labels j) j.budget p = record { selection = selection_out once j p s; weight = leb_yes w } in
        let against : (r : List ℕ) → Fits once j (labels j) j.budget r → T (no_worse p r) =
        λ r f. as_good stated_order (labels j) (once_limits j (labels j)) (fitting j j.budget) no_worse p c r (once_fits f) (yes_leb f.weight) in
        record {
          one_of =
              record {
                fits = fits;
                greatest = λ r f. no_worse_cut p r (against r f);
                lightest = λ r f e. no_worse_weight p r (against r f) e;
              };
          settled =
              λ m h r b.
              well_settled stated_order (labels j) (once_limits j (labels j)) (fitting j j.budget) no_worse p c r (once_fits b.fits)
              (yes_leb b.fits.weight) (tied r b fits (against r b.fits)) m h;
        }
      where
        -- what is best too is no worse than p
        tied : (r : List ℕ) → CutBest j (cut_values j) r → Fits once j (labels j) j.budget p → T (no_worse p r) → T (no_worse r p)
        tied r b fits t =
            let same : cut p ≡ cut r = le_antisymm (b.greatest p fits) (no_worse_cut p r t) in
            let tie : T (eqb (cut p) (cut r) && leb (weight r) (weight p)) =
            yes_and (eqb (cut p) (cut r)) (leb (weight r) (weight p)) (yes_eqb same) (yes_leb (b.lightest p fits same)) in
            or_right (ltb (cut p) (cut r)) (eqb (cut p) (cut r) && leb (weight r) (weight p)) tie

  -- ---- the table

  module _ (i t cell : ℕ) where
    -- p is a selection of the first i labels, within C, with total t, and weighs what the cell says
    abbrev weighing : List ℕ → Bool
    weighing p = selects once j i p && (fitting j j.budget p && (eqb (cut p) t && eqb (weight p) cell))

    -- where q fits and has total t, it weighs no less
    abbrev no_lighter : List ℕ → Bool
    no_lighter q = fitting j j.budget q implies (eqb (cut q) t implies leb cell (weight q))

    -- where q fits, it has another total
    abbrev elsewhere : List ℕ → Bool
    elsewhere q = fitting j j.budget q implies not (eqb (cut q) t)

    abbrev is_least : Bool
    is_least = some (once_limits j i) weighing && all (once_limits j i) no_lighter

    abbrev is_none : Bool
    is_none = all (once_limits j i) elsewhere && eqb cell no_way

    least_out : T is_least → LeastShown (CutWeight j (cut_values j) i t) cell
    least_out h =
        let (one, rest) = and_yes (some (once_limits j i) weighing) (all (once_limits j i) no_lighter) h in
        let (p, h₁) = some_out (once_limits j i) weighing one in
        let (s, h₂) = and_yes (selects once j i p) (fitting j j.budget p && (eqb (cut p) t && eqb (weight p) cell)) h₁ in
        let (w, h₃) = and_yes (fitting j j.budget p) (eqb (cut p) t && eqb (weight p) cell) h₂ in
        let (c, e) = and_yes (eqb (cut p) t) (eqb (weight p) cell) h₃ in
        shown
        (record { picks = p; fits = record { selection = selects_out once j i p s; weight = leb_yes w }; cut = eqb_yes c; heavy = eqb_yes e })
        (λ x r.
        let q = r.picks in
        let light = implied (fitting j j.budget q) (eqb (cut q) t implies leb cell (weight q))
        (all_out (once_limits j i) no_lighter rest q (once_fits r.fits)) (yes_leb r.fits.weight) in
        subst (λ (y : ℕ). cell ≤ y) r.heavy (leb_yes (implied (eqb (cut q) t) (leb cell (weight q)) light (yes_eqb r.cut))))

    none_out : T is_none → LeastShown (CutWeight j (cut_values j) i t) cell
    none_out h =
        let (other, e) = and_yes (all (once_limits j i) elsewhere) (eqb cell no_way) h in
        none_shown
        (λ x r.
        let q = r.picks in
        eqb_no (implied (fitting j j.budget q) (not (eqb (cut q) t))
        (all_out (once_limits j i) elsewhere other q (once_fits r.fits)) (yes_leb r.fits.weight)) r.cut)
        (eqb_yes e)

  module _ (cells : List ℕ) where
    abbrev cell_for : ℕ → ℕ → ℕ
    cell_for i t = at cells (stated_cell j (remain_of j i) t)

    abbrev is_cell : ℕ → ℕ → Bool
    is_cell i t = is_least i t (cell_for i t) || is_none i t (cell_for i t)

    -- `StatedTable` as a test
    unfoldable pub is_stated_table : Bool
    unfolding below some all selects limits no_way
    is_stated_table = below (suc (labels j)) (λ i. below (suc (cut_sum j)) (is_cell i))

    pub stated_table_out : T is_stated_table → StatedTable j cells
    unfolding is_stated_table StatedTable
    stated_table_out h i t hi ht =
        elim (or_yes (is_least i t (cell_for i t)) (is_none i t (cell_for i t))
        (below_out (suc (cut_sum j)) (is_cell i)
        (below_out (suc (labels j)) (λ i'. below (suc (cut_sum j)) (is_cell i')) h i (suc-le-suc hi)) t (suc-le-suc ht)))
        [ inl s ↦ least_out i t (cell_for i t) s | inr n ↦ none_out i t (cell_for i t) n ]
