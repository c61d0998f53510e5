-- Kind 5: the trace down the sizes finds the chosen blocks.
-- Assumes nothing.
use mathlib.Core.Path.{◌≡◌, refl}
use Prim.Native.Nat.{ℕ, suc, ◌+◌, ◌-◌, ◌≤◌, ◌<◌}
use native.Mathlib.Nat.{le_trans, le_of_eq}
use native.Mathlib.Numerals.{add-one}
use native.Mathlib.Omega.{arith}
use mathlib.Core.Bool.{true, false}
use mathlib.Core.List.{List}
use lib.Dec.{ltb}
use lib.ListN.{length, set}
use mir.Facts.{ltb_yes, yes_ltb}
use Rattle.meaning.specs.Lists.{at, sum}
use Rattle.meaning.specs.Cells.{LeastShown, no_way}
use Rattle.meaning.specs.Job.{Job, labels}
use Rattle.meaning.specs.Orders.{last_most}
use Rattle.meaning.specs.Blocks.{Makes, Fewest, Laid, block_order, MadeOf}
use Rattle.meaning.proofs.Totals.{one_more, one_fewer, more_sum, fewer_sum}
use Rattle.meaning.proofs.Making.{makes_more, makes_less}
use Rattle.meaning.proofs.Greedy.{last_is}
use Rattle.meaning.proofs.Shown.{shown_least, shown_by, shown_some}
use Rattle.rows.specs.Traces.{Trace, turn_of, start, taken, passed}
use Rattle.rows.proofs.Stores.{by}
use Rattle.rows.proofs.LeadsOn.{light_true, light_false}
use Rattle.rows.proofs.Traces.{trace_few, trace_chosen}
use Rattle.blocks.specs.Sizes.{leaves_fewer, leads_down, TraceDown}

-- what the test says where it passes, and where it fails
fewer_true : (row : ℕ → ℕ) (w a : ℕ) → leaves_fewer row w a ≡ true → (w ≤ a) × (row (a - w) < row a)
unfolding leaves_fewer
fewer_true row w a e = let (light, on) = light_true w a (ltb (row (a - w)) (row a)) e in (light, ltb_yes on)

fewer_false : (row : ℕ → ℕ) (w a : ℕ) → leaves_fewer row w a ≡ false → w ≤ a → ¬ (row (a - w) < row a)
unfolding leaves_fewer
fewer_false row w a e light on = light_false w a (ltb (row (a - w)) (row a)) e light (yes_ltb on)

-- a size that leads on is no larger than the amount
pub down_light : (row : ℕ → ℕ) (sizes : List ℕ) (m a : ℕ) → leads_down row sizes m a ≡ true → at sizes m ≤ a
down_light row sizes m a on = (fewer_true row (at sizes m) a on).0

-- the trace with i sizes still to be settled
abbrev pub DownTo : (ℕ → ℕ) → List ℕ → ℕ → ℕ → ℕ → List ℕ → Type 0
DownTo row sizes amount i a picks = Trace last_most (leads_down row sizes) sizes (length sizes) amount (length sizes - i) a picks

-- it begins with counts of 0
pub down_begins : (row : ℕ → ℕ) (sizes : List ℕ) (amount i : ℕ) (picks : List ℕ) → length picks ≡ length sizes → i ≡ length sizes
    → ((m : ℕ) → m < length sizes → at picks m ≡ 0) → DownTo row sizes amount i amount picks
down_begins row sizes amount i picks long all zeros =
    let none_yet : length sizes - i ≡ 0 = omega arith in rw none_yet (start {picks = picks} long zeros)

-- no count passes the amount
pub down_few : (row : ℕ → ℕ) (sizes : List ℕ) (amount i a : ℕ) (picks : List ℕ) → DownTo row sizes amount i a picks
    → (m : ℕ) → 1 ≤ at sizes m → at picks m + a ≤ amount
down_few row sizes amount i a picks trace = trace_few last_is (leads_down row sizes) sizes (length sizes) amount (down_light row sizes) trace

-- its steps
module _ (row : ℕ → ℕ) (sizes : List ℕ) (amount i a : ℕ) (picks : List ℕ) (some_left : 0 < i) (inside : i ≤ length sizes)
    (trace : DownTo row sizes amount i a picks) where
  turn_now : turn_of last_most (length sizes) (length sizes - i) ≡ i - 1
  unfolding turn_of
  turn_now = omega arith

  pub down_taken : (w : ℕ) → w ≡ at sizes (i - 1) → leaves_fewer row w a ≡ true
      → DownTo row sizes amount i (a - w) (set picks (i - 1) (at picks (i - 1) + 1))
  down_taken w e on = rw (e, add-one, ← turn_now) (taken trace (omega arith) (rw (turn_now, ← e) on))

  pub down_passed : leads_down row sizes (i - 1) a ≡ false
      → DownTo row sizes amount (i - 1) a picks
  down_passed off =
      let next : suc (length sizes - i) ≡ length sizes - (i - 1) = omega arith in
      rw (← next) (passed trace (omega arith) (rw turn_now off))

-- `row` shows the fewest blocks up to the amount, none of them more than the mark for no way
module _ (j : Job) (row : ℕ → ℕ) (amount : ℕ) (rows : (a : ℕ) → a ≤ amount → LeastShown (MadeOf j (labels j) a) (row a))
    (marked : (a : ℕ) → a ≤ amount → row a ≤ no_way) where
  abbrev FewestAt : ℕ → List ℕ → Type 0
  FewestAt a q = Fewest j (labels j) a q

  long : (a : ℕ) (q : List ℕ) → FewestAt a q → length q ≡ labels j
  long a q f = f.makes.one_each

  -- a list that makes an amount has no fewer blocks than the row shows
  row_least : (a : ℕ) → a ≤ amount → (q : List ℕ) → Makes j (labels j) a q → row a ≤ sum q
  row_least a h q m = shown_least (rows a h) (sum q) (record { picks = q; makes = m; blocks = refl })

  -- and where the row shows no mark, some list has just so many
  some_fewest : (a : ℕ) → a ≤ amount → row a < no_way → (q : List ℕ) × FewestAt a q
  some_fewest a h l =
      let d = shown_some (rows a h) (λ e. omega arith) in
      (d.picks, record { makes = d.makes; least = λ q m. le_trans (le_of_eq d.blocks) (row_least a h q m) })

  -- a fewest list has as many blocks as the row shows
  pub fewest_row : (a : ℕ) → a ≤ amount → (q : List ℕ) → FewestAt a q → sum q ≡ row a
  fewest_row a h q f =
      let d = shown_by (rows a h) (sum q) (record { picks = q; makes = f.makes; blocks = refl }) in
      omega (arith, row_least a h q f.makes, f.least d.picks d.makes, d.blocks)

  module _ (m a : ℕ) (inside : m < labels j) (within : a ≤ amount) where
    abbrev w : ℕ
    w = at j.weights m

    -- one block of size m leads on: the fewest lists are, as far as they use it, those for the rest with one more of it
    module _ (lead : leaves_fewer row w a ≡ true) where
      light : w ≤ a
      light = (fewer_true row w a lead).0

      more_fewest : (q : List ℕ) → FewestAt (a - w) q → FewestAt a (one_more q m)
      more_fewest q f = record {
        makes = makes_more j a q m inside light f.makes;
        least = λ p k.
            omega (
              arith,
              row_least a within p k,
              more_sum q m (omega (arith, long (a - w) q f)),
              fewest_row (a - w) (omega (arith, light)) q f,
              (fewer_true row w a lead).1,
            );
      }

      fewer_fewest : (q : List ℕ) → FewestAt a q → 0 < at q m → FewestAt (a - w) (one_fewer q m)
      fewer_fewest q f Some-of = record {
        makes = (makes_less j a q m inside Some-of f.makes).1;
        least = λ p k.
            omega (
              arith,
              f.least (one_more p m) (makes_more j a p m inside light k),
              more_sum p m (omega (arith, k.one_each)),
              fewer_sum q m (omega (arith, long a q f)) Some-of,
            );
      }

      left_fewest : (q : List ℕ) × FewestAt (a - w) q
      left_fewest = some_fewest (a - w) (omega (arith, light)) (omega (arith, (fewer_true row w a lead).1, marked a within))

    -- where it doesn't, no fewest list uses it
    unused : leaves_fewer row w a ≡ false → (q : List ℕ) → FewestAt a q → at q m ≡ 0
    unused off q f =
        by 0 (at q m)
        (λ Some-of.
        let (fits, rest) = makes_less j a q m inside Some-of f.makes in
        absurd (fewer_false row w a off fits (omega (
          arith,
          row_least (a - w) (omega arith) (one_fewer q m) rest,
          fewer_sum q m (omega (arith, long a q f)) Some-of,
          fewest_row a within q f,
        ))))
        (λ none_of. omega arith)

  -- so the counts found are the chosen ones
  pub down_laid : (found : List ℕ) → row amount < no_way → TraceDown row j.weights amount found → Laid j amount found
  unfolding Laid block_order labels
  down_laid found some-way down =
      trace_chosen last_is (leads_down row j.weights) j.weights (labels j) amount (down_light row j.weights) FewestAt long
      left_fewest more_fewest fewer_fewest unused down.left found (some_fewest amount (omega arith) some-way) down.trace
