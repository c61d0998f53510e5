-- The rows have the best values, and the trace back through the bits finds the picks.
-- Assumes nothing.
use mathlib.Core.Path.{◌≡◌, refl, subst, ◌∙◌}
use Prim.Native.Nat.{ℕ, suc, ◌+◌, ◌-◌, ◌*◌, ◌≤◌, ◌<◌}
use native.Mathlib.Nat.{zero-add, mul-one, mul-zero}
use native.Mathlib.Omega.{arith}
use mathlib.Core.List.{List, []}
use lib.ListN.{length, drop, set}
use Rattle.meaning.specs.Lists.{at}
use Rattle.meaning.specs.Job.{Job, labels, once}
use Rattle.meaning.specs.Sums.{bit, Tells, is_so, is_not}
use Rattle.meaning.specs.Knapsacks.{MayPick, BestValue, OneRow, order_of}
use Rattle.meaning.specs.Lent.{bit_words}
use Rattle.meaning.specs.Light.{LightTable, label_bit}
use Rattle.meaning.proofs.Light.{raises_by, raises_none}
use Rattle.meaning.proofs.Totals.{total_none}
use Rattle.meaning.proofs.Trace.{picks_none}
use Rattle.rows.specs.Rows.{Worth, GreatestRow, Raised, Least}
use Rattle.rows.proofs.Stores.{by, stored_first}
use Rattle.rows.proofs.Counts.{greatest_none, greatest_part}
use Rattle.rows.specs.Traces.{TraceBack, begin, back}
use Rattle.rows.proofs.AnyRows.{rows_best, picks_back, weight_back, trace_within}
use Rattle.light.specs.Packed.{PackedLight}
use Rattle.light.specs.Labels.{row_after, Lit, TraceBits, begun, read_off}
use Rattle.light.proofs.Labels.{row_raised}

-- ---- one label

-- none of the label is worth what the row had
none_worth : (f : ℕ → ℕ) (w v c b : ℕ) → Worth f w v c 0 b → b ≡ f c
none_worth f w v c b d =
    let here : d.left ≡ c = omega (arith, d.spent, mul-zero w) in
    d.worth ∙ rw here (omega (arith, mul-zero v))

-- the bit that says whether the label raises the cell is the least count that leads to it
rise_least : (f g : ℕ → ℕ) (w v width c : ℕ) {b : ℕ} → Raised f f g w v width → c < width → Tells (f c < g c) b → Least f w v c (g c) b
rise_least f g w v width c up inside (is_so rose e) =
    by c w
    (λ h. absurd (omega (arith, up.short c inside h)))
    (λ h. rw e (record {
      made = record { left = c - w; spent = omega (arith, mul-one w); worth = omega (arith, mul-one v, up.long c inside h) };
      fewer = λ y l d. let none : y ≡ 0 = omega arith in absurd (omega (arith, none_worth f w v c (g c) (rw none at d)));
    }))
rise_least f g w v width c up inside (is_not not e) =
    let same : g c ≡ f c =
    by c w (λ h. up.short c inside h) (λ h. by (f c) (g c) (λ l. absurd (not l)) (λ l. omega (arith, up.long c inside h))) in
    rw e (record {
      made = record { left = c; spent = omega (arith, mul-zero w); worth = omega (arith, mul-zero v) };
      fewer = λ y l d. absurd (omega arith);
    })

-- one label more on the trace
pub bits_more : (ws words : List ℕ) (per n budget i c x : ℕ) (picks : List ℕ) → 0 < i → i ≤ length picks
    → TraceBits ws words per n budget i c (drop i picks) → x ≡ bit words (64 * ((i - 1) * per) + c) → at ws (i - 1) * x ≤ c
    → TraceBits ws words per n budget (i - 1) (c - at ws (i - 1) * x) (drop (i - 1) (set picks (i - 1) x))
bits_more ws words per n budget i c x picks pos inside trace e fits =
    let here : i ≡ suc (i - 1) = omega arith in
    let before = subst (λ (m : ℕ). TraceBits ws words per n budget m c (drop m picks)) here trace in
    rw (stored_first picks (i - 1) x (omega arith)) (read_off {rest = c - at ws (i - 1) * x} before e (omega arith))

-- ---- all labels

module _ (ws vs : List ℕ) (width per n : ℕ) (cells words : List ℕ) (lit : Lit ws vs width per n cells words) where
  -- the bit of a label is the least count that leads from its row to the row before it
  bit_least : (m c : ℕ) → m < n → c < width
      → Least (row_after ws vs m) (at ws m) (at vs m) c (row_after ws vs (suc m) c) (bit words (64 * (m * per) + c))
  bit_least m c h l =
      rise_least (row_after ws vs m) (row_after ws vs (suc m)) (at ws m) (at vs m) width c (row_raised ws vs m width) l (lit.set m c h l)

  -- a label whose bit is set fits what is left
  pub bit_fits : (m c : ℕ) → m < n → c < width → at ws m * bit words (64 * (m * per) + c) ≤ c
  bit_fits m c h l = omega (arith, (bit_least m c h l).made.spent)

  -- so the trace through the bits is the trace back through the rows, though these are gone
  bits_back : {budget i c : ℕ} {found : List ℕ} → budget < width → TraceBits ws words per n budget i c found
      → TraceBack (row_after ws vs) ws vs n budget i c found
  bits_back wide begun = begin
  bits_back wide (read_off {i} {c} {x} {rest} {found} trace e s) =
      let before = bits_back wide trace in
      let (h, hc) = trace_within before in
      back {x = x} before (rw e (bit_least i c h (omega arith))) s

module _ (j : Job) where
  abbrev row : ℕ → ℕ → ℕ
  row i c = row_after j.weights j.values i c

  row_greatest : (width i : ℕ) → i < labels j
      → GreatestRow (MayPick once (at j.copies i)) (row i) (at j.weights i) (at j.values i) width (row (suc i))
  unfolding MayPick GreatestRow
  row_greatest width i h c l =
      let w = at j.weights i in
      let v = at j.values i in
      rw zero-add at
      (greatest_part (row i) (row i) (row (suc i)) w v 0 1 width (omega arith) (λ d k. greatest_none (row i) w v d)
      (rw (mul-one w, mul-one v) (row_raised j.weights j.values i width)) c l)

  row_first : (width c : ℕ) → c < width → row 0 c ≡ 0
  unfolding row_after
  row_first width c l = refl

  -- each cell is the best value of its labels and its budget
  row_best : (i c : ℕ) → i ≤ labels j → BestValue once j i c (row i c)
  row_best i c h = rows_best once j (suc c) row (row_first (suc c)) (row_greatest (suc c)) i c h (omega arith)

  -- what the row and the words of all labels mean
  module _ (cells words : List ℕ) (lit : Lit j.weights j.values (j.budget + 1) (bit_words j) (labels j) cells words) where
    pub light_table : LightTable j cells words
    unfolding OneRow label_bit
    light_table = record {
      best = λ c l. rw (lit.cells c (omega arith)) (row_best (labels j) c (omega arith));
      set = λ m c h l. by j.budget c
          (λ b. raises_none j m c _ b (lit.above m c h (omega arith) l))
          (λ b. raises_by j m c _ _ _ (row_best m c (omega arith)) (row_best (suc m) c h) b (lit.set m c h (omega arith)));
      narrow = lit.narrow;
    }

    -- and the picks that the trace finds
    pub packed : {left : ℕ} {picks : List ℕ} → TraceBits j.weights words (bit_words j) (labels j) j.budget 0 left picks
        → PackedLight j cells words picks left
    unfolding order_of
    packed {left} {picks} trace =
        let through = bits_back j.weights j.values (j.budget + 1) (bit_words j) (labels j) cells words lit (omega arith) trace in
        record {
          table = light_table;
          chosen =
              picks_back once j (j.budget + 1) row (row_first (j.budget + 1)) (row_greatest (j.budget + 1)) refl j.budget (omega arith)
              through [] (picks_none once j left);
          weight = omega (arith, weight_back row j through [] refl, total_none j.weights);
        }
