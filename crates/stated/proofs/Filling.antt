-- The table as it is filled: where its rows stand, its first row, and what a label makes of it.
-- Assumes nothing.
use mathlib.Core.Path.{◌≡◌, sym, ap, ap₂, ◌∙◌}
use Prim.Native.Nat.{ℕ, zero, suc, ◌+◌, ◌-◌, ◌*◌, ◌≤◌, ◌<◌, zero-le}
use native.Mathlib.Nat.{zero-mul, mul-zero, mul-le-mul_right, le_refl}
use native.Mathlib.Decide.{dec_le}
use native.Mathlib.Numerals.{add-one}
use native.Mathlib.Omega.{arith}
use mathlib.Core.List.{List, [], ◌∷◌}
use lib.Dec.{leb}
use lib.ListN.{length}
use borrow.Author.Tests.{eq-eqb, ne_eqb, le-leb, lt-leb}
use Rattle.meaning.specs.Lists.{at, if}
use Rattle.meaning.specs.Cells.{no_way}
use Rattle.meaning.specs.Job.{Job, job_of, labels}
use Rattle.meaning.proofs.Remaining.{remain_none, remain_next, remain_more, remain_same}
use Rattle.meaning.proofs.EachLabel.{product_one}
use Rattle.rows.specs.Rows.{Joined, FirstAlone}
use Rattle.rows.proofs.Stores.{by}
use Rattle.rows.proofs.AnyRows.{one_row_more}
use Rattle.stated.specs.LeastWeights.{NextWeights, LabelAdded, aside, row_made, row_of, cell_of, Roomy, Filled}
use Rattle.stated.specs.ReadOff.{apart}
use Rattle.stated.proofs.Lightening.{lighter_least}

-- ---- where the rows stand

module _ (c : ℕ) (weights : List ℕ) where
  abbrev alone : Job
  alone = job_of 9 (c ∷ []) weights [] []

  pub row_none : row_of c weights 0 ≡ 0
  row_none = remain_none alone

  -- label i, as a loop counts: x is 1 where it remains, and 0 where it is left aside
  pub row_count : (i w x m : ℕ) → i < length weights → w ≡ at weights i → x ≡ if (leb w c) 1 0 → m ≡ row_of c weights i
      → m + x ≡ row_of c weights (i + 1)
  unfolding job_of labels
  row_count i w x m h ew ex em = rw add-one (omega (arith, rw ew at ex, remain_next alone i h))

  -- a label that remains has a row of its own, and one that is left aside has none
  pub row_more : (i : ℕ) → i < length weights → at weights i ≤ c → row_of c weights (suc i) ≡ row_of c weights i + 1
  unfolding job_of labels
  row_more i h light = remain_more alone i h light

  pub row_same : (i : ℕ) → i < length weights → c < at weights i → row_of c weights (suc i) ≡ row_of c weights i
  unfolding job_of labels
  row_same i h heavy = remain_same alone i h heavy

  -- more labels have no fewer rows
  row_up : (k i : ℕ) → k ≤ i → i ≤ length weights → row_of c weights k ≤ row_of c weights i
  row_up k zero h l = let e : k ≡ 0 = omega arith in rw e (le_refl (row_of c weights 0))
  row_up k (suc i) h l =
      elim (dec_le k i) [
        | yes le ↦
            let up : row_of c weights k ≤ row_of c weights i = row_up k i le (omega arith) in
            by c (at weights i) (λ heavy. omega (arith, row_same i l heavy)) (λ light. omega (arith, row_more i l light))
        | no gt ↦ let e : k ≡ suc i = omega arith in rw e (le_refl (row_of c weights (suc i)))
      ]

  module _ (width : ℕ) where
    -- where they start: a width further on, or in the same place
    start_more : (i : ℕ) → i < length weights → at weights i ≤ c → row_of c weights (suc i) * width ≡ row_of c weights i * width + width
    start_more i h light = ap (λ (r : ℕ). r * width) (row_more i h light) ∙ one_row_more (row_of c weights i) width

    start_same : (i : ℕ) → i < length weights → c < at weights i → row_of c weights (suc i) * width ≡ row_of c weights i * width
    start_same i h heavy = ap (λ (r : ℕ). r * width) (row_same i h heavy)

    start_up : (k i : ℕ) → k ≤ i → i ≤ length weights → row_of c weights k * width ≤ row_of c weights i * width
    start_up k i h l = mul-le-mul_right width (row_up k i h l)

    module _ {cuts : List ℕ} {size : ℕ} (roomy : Roomy c weights cuts width size) where
      -- the last row ends with the table
      pub last_row : row_of c weights (length weights) * width + width ≡ size
      last_row = sym (one_row_more (row_of c weights (length weights)) width) ∙ roomy.whole

      -- so the first is within it, each row is, and so is that of a label that remains
      pub first_within : width ≤ size
      first_within = omega (arith, last_row)

      pub row_within : (i : ℕ) → i ≤ length weights → row_of c weights i * width + width ≤ size
      row_within i h = omega (arith, last_row, start_up i (length weights) h (le_refl (length weights)))

      -- and so is each cell of it
      pub cell_there : (i row t : ℕ) → i ≤ length weights → row ≡ row_of c weights i * width → t < width → row + t < size
      cell_there i row t h here less = omega (arith, row_within i h, here)

      pub next_within : (i : ℕ) → i < length weights → at weights i ≤ c → row_of c weights i * width + width + width ≤ size
      next_within i h light = omega (arith, row_within (suc i) h, start_more i h light)

    -- as a loop goes back, with label n - 1 the next: a label that remains has a row before its own, and where that starts is told by how far back
    module _ (n row w : ℕ) (pos : 0 < n) (few : n ≤ length weights) (weighs : w ≡ at weights (n - 1)) (here : row ≡ row_of c weights n * width) where
      pub row_here : row ≡ row_of c weights (suc (n - 1)) * width
      row_here = let e : n ≡ suc (n - 1) = omega arith in rw (← e) here

      pub row_past : w ≤ c → width ≤ row
      row_past light = omega (arith, start_more (n - 1) (omega arith) (rw weighs at light), row_here)

      pub row_back : (before : ℕ) → before + if (leb w c) width 0 ≡ row → before ≡ row_of c weights (n - 1) * width
      unfolding if
      row_back before e =
          by c w
          (λ heavy. omega (arith, start_same (n - 1) (omega arith) (rw weighs at heavy), row_here, rw (lt-leb w c heavy) at e))
          (λ light. omega (arith, start_more (n - 1) (omega arith) (rw weighs at light), row_here, rw (le-leb w c light) at e))

-- ---- label by label

-- a row that is joined to cells that are the same
joined_same : (rule : ℕ → ℕ → ℕ) (f f' g g' : ℕ → ℕ) (a width : ℕ) → ((t : ℕ) → t < width → f' t ≡ f t) → ((t : ℕ) → t < width → g' t ≡ g t)
    → Joined rule f f g a width → Joined rule f' f' g' a width
joined_same rule f f' g g' a width ef eg d = record {
  short = λ t h l. eg t h ∙ d.short t h l ∙ sym (ef t h);
  long = λ t h l. eg t h ∙ d.long t h l ∙ sym (ap₂ rule (ef t h) (ef (t - a) (omega arith)));
}

module _ (c : ℕ) (weights cuts : List ℕ) (width : ℕ) where
  -- of no labels
  pub filled_none : (cells : List ℕ) → FirstAlone 0 no_way width cells → Filled c weights cuts width 0 cells
  filled_none cells first = record { first = first; next = λ m h light. absurd (omega arith) }

  module _ (some : 0 < width) (i : ℕ) (inside : i < length weights) where
    -- what is known of the labels before, and of label i
    up_to_lem : {P : ℕ → Type 0} → ((m : ℕ) → m < i → P m) → P i → (m : ℕ) → m < suc i → P m
    up_to_lem {P} before here m h = elim (dec_le i m) [
      | yes ge ↦ let e : m ≡ i = omega arith in rw e here
      | no lt ↦ before m (omega arith)
    ]

    -- a label that is left aside
    filled_aside : (s : List ℕ) → c < at weights i → Filled c weights cuts width i s → Filled c weights cuts width (suc i) s
    filled_aside s heavy d = record { first = d.first; next = up_to_lem d.next (λ light. absurd (omega arith)) }

    -- a label that remains
    filled_more : (s t : List ℕ) → at weights i ≤ c → NextWeights s t (row_of c weights i * width) width c (at weights i) (at cuts i)
        → Filled c weights cuts width i s → Filled c weights cuts width (suc i) t
    filled_more s t light next d =
        let from = row_of c weights i * width in
        let kept : (k u : ℕ) → k ≤ i → u < width → cell_of c weights width t k u ≡ cell_of c weights width s k u =
        λ k u h l. next.before (row_of c weights k * width + u) (omega (arith, start_up c weights width k i h (omega arith))) in
        record {
          first = record {
            first = next.before 0 (omega arith) ∙ d.first.first;
            others = λ m pos h. next.before m (omega arith) ∙ d.first.others m pos h;
          };
          next = up_to_lem
              (λ m h light'. joined_same _ _ _ _ _ _ _ (λ u l. kept m u (omega arith) l) (λ u l. kept (suc m) u h l) (d.next m h light'))
              (λ light'. joined_same _ _ _ _ _ _ _ (λ u l. kept i u (le_refl i) l)
              (λ u l.
              let new : row_of c weights (suc i) * width + u ≡ from + width + u = omega (arith, start_more c weights width i inside light) in
              ap (at t) new)
              next.made);
        }

    -- what the loop does with it
    pub filled_next : {s t : List ℕ} {from w a r : ℕ} → from ≡ row_of c weights i * width → w ≡ at weights i → a ≡ at cuts i
        → LabelAdded s t from width c w a r → Filled c weights cuts width i s
        → Filled c weights cuts width (i + 1) t × (r ≡ row_of c weights (i + 1) * width)
    filled_next {s} {t} {from} {w} {a} e ew ea (aside heavy same) d =
        let heavy' : c < at weights i = omega arith in
        rw (add-one, same) (filled_aside s heavy' d, e ∙ sym (start_same c weights width i inside heavy'))
    filled_next {s} {t} {from} {w} {a} e ew ea (row_made light next) d =
        let light' : at weights i ≤ c = omega arith in
        rw add-one (filled_more s t light' (rw (e, ew, ea) at next) d, omega (arith, start_more c weights width i inside light'))

-- ---- what the cells alone tell of a filled table

-- 0 or 1, as two cells are the same or not
pub apart_same : (x y : ℕ) → x ≡ y → apart x y ≡ 0
unfolding apart if
apart_same x y e = rw (eq-eqb x y e)

pub apart_other : (x y : ℕ) → ¬ (x ≡ y) → apart x y ≡ 1
unfolding apart if
apart_other x y e = rw (ne_eqb x y e)

pub apart_few : (x y : ℕ) → apart x y ≤ 1
apart_few x y = by x y
    (λ lt. omega (arith, apart_other x y (λ e. omega arith)))
    (λ ge. by y x
    (λ gt. omega (arith, apart_other x y (λ e. omega arith)))
    (λ le. omega (arith, apart_same x y (omega arith))))

module _ (c : ℕ) (weights cuts : List ℕ) (width : ℕ) (cells : List ℕ) (filled : Filled c weights cuts width (length weights) cells) where
  abbrev cell : ℕ → ℕ → ℕ
  cell i t = cell_of c weights width cells i t

  -- a label that is left aside has the cells of the row before
  pub cell_same : (i t : ℕ) → i < length weights → c < at weights i → cell (suc i) t ≡ cell i t
  cell_same i t h heavy = ap (λ (r : ℕ). at cells (r * width + t)) (row_same c weights i h heavy)

  -- the first row starts the table
  pub cell_first : (t : ℕ) → cell 0 t ≡ at cells t
  cell_first t =
      let here : row_of c weights 0 * width + t ≡ t = omega (arith, ap (λ (r : ℕ). r * width) (row_none c weights), zero-mul width) in
      ap (at cells) here

  -- total 0 weighs nothing in every row
  pub total_0_reached : 0 < width → (i : ℕ) → i ≤ length weights → cell i 0 ≡ 0
  total_0_reached some zero h = cell_first 0 ∙ filled.first.first
  total_0_reached some (suc i) h =
      let before : cell i 0 ≡ 0 = total_0_reached some i (omega arith) in
      by c (at weights i)
      (λ heavy. cell_same i 0 h heavy ∙ before)
      (λ light.
      let row = filled.next i h light in
      by 0 (at cuts i)
      (λ above. row.short 0 some above ∙ before)
      (λ none. omega (arith, row.long 0 some none, lighter_least c (at weights i) (cell i 0) (cell i (0 - at cuts i)))))

  -- a label whose cell differs from that of the row before has a cut value within the total
  pub pick_within : (i t : ℕ) → i < length weights → t < width → at cuts i * apart (cell i t) (cell (suc i) t) ≤ t
  pick_within i t h l =
      let none : cell i t ≡ cell (suc i) t → at cuts i * apart (cell i t) (cell (suc i) t) ≤ t =
      λ e. rw (apart_same (cell i t) (cell (suc i) t) e, mul-zero (at cuts i)) zero-le in
      by c (at weights i)
      (λ heavy. none (sym (cell_same i t h heavy)))
      (λ light. by t (at cuts i)
      (λ small. none (sym ((filled.next i h light).short t l small)))
      (λ large. omega (arith, product_one (at cuts i) (apart (cell i t) (cell (suc i) t)) (apart_few (cell i t) (cell (suc i) t)))))
