-- On a small job a whole table can be tested, cell by cell: each test below, where it computes to true, shows its meaning.
-- Assumes nothing.
use mathlib.Core.Path.{subst}
use mathlib.Core.Logic.{inl, inr}
use Prim.Native.Nat.{◌*◌, ◌+◌, ◌/◌, ◌<◌, ◌^◌, ◌≤◌, min, suc, suc-le-suc, zero, ℕ}
use native.Mathlib.Decide.{dec_le}
use native.Mathlib.Omega.{arith}
use mathlib.Core.Bool.{Bool, ◌&&◌, ◌||◌}
use mathlib.Core.List.{List, [], ◌∷◌}
use lib.Dec.{T, eqb, leb, ltb}
use lib.ListN.{get_or, length}
use mir.Facts.{and_yes, eqb_yes, leb_yes, ltb_yes, or_yes, yes_eqb, yes_leb}
use Rattle.meaning.specs.Lists.{at, sum, total}
use Rattle.meaning.specs.Cells.{LeastShown, no_way, none_shown, shown}
use Rattle.meaning.specs.Job.{Job, Knapsack, free, labels, once}
use Rattle.meaning.specs.Lent.{bit_words}
use Rattle.meaning.specs.Knapsacks.{BestValue, FullTable, OneRow, cell_number}
use Rattle.meaning.specs.Sums.{BitTable, ReachedWithin, Tells, bit, is_not, is_so}
use Rattle.meaning.specs.Light.{LightTable, Raises, label_bit}
use Rattle.meaning.specs.Behind.{FirstRow, ReachedBy}
use Rattle.meaning.specs.Blocks.{FewestRow, MadeOf, WaysRow, too_many}
use Rattle.meaning.specs.Certificates.{some_of}
use Rattle.meaning.proofs.Tests.{◌implies◌, all, all_out, below, below_out, implied}
use Rattle.meaning.proofs.Steps.{best_by}
use Rattle.meaning.proofs.Light.{raises_by, raises_none}
use Rattle.meaning.proofs.Reaching.{reached_as, reached_more}
use Rattle.meaning.proofs.Small.{are_ways, block_limits, exact, fitting, is_making, is_selection, limits_hold}
use Rattle.meaning.proofs.Small.{limits_right, makes_out, makes_within, misses, misses_out, once_limits, reached_by}
use Rattle.meaning.proofs.Small.{selects, selects_out, unmade, unmade_out, ways_out, limits}

-- ---- some list of counts

-- some list within the limits passes
unfoldable pub some : List ℕ → (List ℕ → Bool) → Bool
unfolding some_of
some [] f = f []
some (l ∷ ls) f = some_of (λ x. some ls (λ q. f (x ∷ q))) (suc l)

some_of_out : (f : ℕ → Bool) (n : ℕ) → T (some_of f n) → (x : ℕ) × T (f x)
unfolding some_of
some_of_out f zero t = absurd t
some_of_out f (suc n) t = elim (or_yes (some_of f n) (f n) t) [ inl a ↦ some_of_out f n a | inr b ↦ (n, b) ]

pub some_out : (ls : List ℕ) (f : List ℕ → Bool) → T (some ls f) → (q : List ℕ) × T (f q)
unfolding some
some_out [] f t = ([], t)
some_out (l ∷ ls) f t =
    let (x, u) = some_of_out (λ x. some ls (λ q. f (x ∷ q))) (suc l) t in
    let (q, h) = some_out ls (λ q. f (x ∷ q)) u in
    (x ∷ q, h)

-- ---- kinds 1 to 3

module _ (k : Knapsack) (j : Job) (i c v : ℕ) where
  -- q is a fitting selection and worth v
  abbrev worth : List ℕ → Bool
  worth q = selects k j i q && (fitting j c q && eqb (total j.values q) v)

  -- where q fits, it is worth no more than v
  abbrev worth_no_more : List ℕ → Bool
  worth_no_more q = fitting j c q implies leb (total j.values q) v

  -- `BestValue` as a test
  unfoldable is_best : Bool
  unfolding some all selects limits limits_right
  is_best = limits_right k j i && (some (limits k j i c) worth && all (limits k j i c) worth_no_more)

  best_out : T is_best → BestValue k j i c v
  unfolding is_best
  best_out t =
      let (right, t₁) = and_yes (limits_right k j i) (some (limits k j i c) worth && all (limits k j i c) worth_no_more) t in
      let (one, no_more) = and_yes (some (limits k j i c) worth) (all (limits k j i c) worth_no_more) t₁ in
      let (p, t₂) = some_out (limits k j i c) worth one in
      let (s, t₃) = and_yes (selects k j i p) (fitting j c p && eqb (total j.values p) v) t₂ in
      let (w, e) = and_yes (fitting j c p) (eqb (total j.values p) v) t₃ in
      best_by p (record { selection = selects_out k j i p s; weight = leb_yes w }) (eqb_yes e)
      (λ q f. leb_yes (implied (fitting j c q) (leb (total j.values q) v)
      (all_out (limits k j i c) worth_no_more no_more q (limits_hold k j i c q right f.selection f.weight)) (yes_leb f.weight)))

module _ (k : Knapsack) (j : Job) (cells : List ℕ) where
  -- `OneRow` as a test
  unfoldable pub is_row : Bool
  unfolding below is_best
  is_row = below (suc j.budget) (λ c. is_best k j (labels j) c (at cells c))

  pub row_out : T is_row → OneRow k j cells
  unfolding is_row OneRow
  row_out t c h =
      best_out k j (labels j) c (at cells c) (below_out (suc j.budget) (λ c'. is_best k j (labels j) c' (at cells c')) t c (suc-le-suc h))

  -- the row of the first i labels in `FullTable` as a test
  unfoldable is_full_row : ℕ → Bool
  unfolding below is_best
  is_full_row i = below (suc j.budget) (λ c. is_best k j i c (at cells (cell_number j i c)))

  -- `FullTable` as a test
  unfoldable pub is_full_table : Bool
  unfolding below is_full_row
  is_full_table = below (suc (labels j)) is_full_row

  pub full_table_out : T is_full_table → FullTable k j cells
  unfolding is_full_table is_full_row FullTable
  full_table_out t i c hi hc =
      best_out k j i c (at cells (cell_number j i c))
      (below_out (suc j.budget) (λ c'. is_best k j i c' (at cells (cell_number j i c')))
      (below_out (suc (labels j)) is_full_row t i (suc-le-suc hi)) c (suc-le-suc hc))

-- ---- kind 1 the light way, beside its full table

module _ (j : Job) (full cells words : List ℕ) where
  abbrev cell : ℕ → ℕ → ℕ
  cell i c = at full (cell_number j i c)

  -- bit c of label m is set, and label m raises the cell
  abbrev is_rise : ℕ → ℕ → Bool
  is_rise m c = eqb (label_bit j words m c) 1 && (leb c j.budget && ltb (cell m c) (cell (suc m) c))

  -- it isn't set, and label m doesn't, or c is above C
  abbrev is_no_rise : ℕ → ℕ → Bool
  is_no_rise m c = eqb (label_bit j words m c) 0 && (leb c j.budget implies leb (cell (suc m) c) (cell m c))

  abbrev is_bit_of : ℕ → Bool
  is_bit_of m = below (64 * bit_words j) (λ c. is_rise m c || is_no_rise m c)

  -- `LightTable` as a test
  unfoldable pub is_light_table : Bool
  unfolding below is_full_table is_row label_bit bit
  is_light_table =
      is_full_table once j full && is_row once j cells && (below (labels j) is_bit_of && below (labels j * bit_words j) (λ m. ltb (at words m) (2 ^ 64)))

  module _ (table : FullTable once j full) (m c : ℕ) (inside : m < labels j) where
    bit_of_out : T (is_rise m c || is_no_rise m c) → Tells (Raises j m c) (label_bit j words m c)
    unfolding FullTable
    bit_of_out t =
        let bit_is = label_bit j words m c in
        elim (or_yes (is_rise m c) (is_no_rise m c) t) [
          | inl a ↦
              let (e, up) = and_yes (eqb bit_is 1) (leb c j.budget && ltb (cell m c) (cell (suc m) c)) a in
              let (in-budget, above) = and_yes (leb c j.budget) (ltb (cell m c) (cell (suc m) c)) up in
              let within : c ≤ j.budget = leb_yes in-budget in
              raises_by j m c _ _ bit_is (table m c (omega arith) within) (table (suc m) c inside within) within (is_so (ltb_yes above) (eqb_yes e))
          | inr b ↦
              let (e, up) = and_yes (eqb bit_is 0) (leb c j.budget implies leb (cell (suc m) c) (cell m c)) b in
              elim (dec_le c j.budget) [
                | yes within ↦
                    let no_more : cell (suc m) c ≤ cell m c = leb_yes (implied (leb c j.budget) (leb (cell (suc m) c) (cell m c)) up (yes_leb within)) in
                    raises_by j m c _ _ bit_is (table m c (omega arith) within) (table (suc m) c inside within) within
                    (is_not (λ above. absurd (omega (arith, no_more, above))) (eqb_yes e))
                | no past ↦ raises_none j m c bit_is (omega arith) (eqb_yes e)
              ]
        ]

  pub light_table_out : T is_light_table → LightTable j cells words
  unfolding is_light_table
  light_table_out t =
      let narrows : Bool = below (labels j * bit_words j) (λ m. ltb (at words m) (2 ^ 64)) in
      let (tables, bits-narrow) = and_yes (is_full_table once j full && is_row once j cells) (below (labels j) is_bit_of && narrows) t in
      let (full-right, row-right) = and_yes (is_full_table once j full) (is_row once j cells) tables in
      let (bits, narrow) = and_yes (below (labels j) is_bit_of) narrows bits-narrow in
      record {
        best = row_out once j cells row-right;
        set = λ m c inside l.
            bit_of_out (full_table_out once j full full-right) m c inside
            (below_out (64 * bit_words j) (λ c'. is_rise m c' || is_no_rise m c') (below_out (labels j) is_bit_of bits m inside) c l);
        narrow = λ m l. ltb_yes (below_out (labels j * bit_words j) (λ m'. ltb (at words m') (2 ^ 64)) narrow m l);
      }

-- ---- kind 4

module _ (j : Job) (words : List ℕ) where
  -- p is a selection that weighs t
  abbrev weighing : ℕ → List ℕ → Bool
  weighing t p = is_selection once j p && eqb (total j.weights p) t

  -- the bit of t is set, and t is reached and at most C
  abbrev is_set : ℕ → Bool
  is_set t = eqb (bit words t) 1 && (leb t j.budget && some (once_limits j (labels j)) (weighing t))

  -- the bit of t isn't set, and t is above C or missed
  abbrev is_unset : ℕ → Bool
  is_unset t = eqb (bit words t) 0 && (leb t j.budget implies misses j (labels j) t)

  set_out : (t : ℕ) → T (is_set t) → Tells (ReachedWithin j (labels j) t) (bit words t)
  set_out t h =
      let (e, h₁) = and_yes (eqb (bit words t) 1) (leb t j.budget && some (once_limits j (labels j)) (weighing t)) h in
      let (within, h₂) = and_yes (leb t j.budget) (some (once_limits j (labels j)) (weighing t)) h₁ in
      let (p, h₃) = some_out (once_limits j (labels j)) (weighing t) h₂ in
      let (s, w) = and_yes (is_selection once j p) (eqb (total j.weights p) t) h₃ in
      is_so (record { reached = reached_by j p t s (eqb_yes w); within = leb_yes within }) (eqb_yes e)

  unset_out : (t : ℕ) → T (is_unset t) → Tells (ReachedWithin j (labels j) t) (bit words t)
  unset_out t h =
      let (e, miss) = and_yes (eqb (bit words t) 0) (leb t j.budget implies misses j (labels j) t) h in
      is_not
      (λ r.
      let missed = implied (leb t j.budget) (misses j (labels j) t) miss (yes_leb r.within) in
      misses_out j (labels j) t r.within missed _ r.reached.weighs)
      (eqb_yes e)

  -- `BitTable` as a test
  unfoldable pub is_bit_table : Bool
  unfolding below some is_selection misses limits bit
  is_bit_table = below (64 * (j.budget / 64 + 1)) (λ t. is_set t || is_unset t) && below (j.budget / 64 + 1) (λ m. ltb (at words m) (2 ^ 64))

  pub bit_table_out : T is_bit_table → BitTable j words
  unfolding is_bit_table
  bit_table_out h =
      let (bits, narrow) =
      and_yes (below (64 * (j.budget / 64 + 1)) (λ t. is_set t || is_unset t)) (below (j.budget / 64 + 1) (λ m. ltb (at words m) (2 ^ 64))) h in
      record {
        set =
            λ t l.
            elim (or_yes (is_set t) (is_unset t) (below_out (64 * (j.budget / 64 + 1)) (λ t'. is_set t' || is_unset t') bits t l))
            [ inl a ↦ set_out t a | inr b ↦ unset_out t b ];
        narrow = λ m l. ltb_yes (below_out (j.budget / 64 + 1) (λ m'. ltb (at words m') (2 ^ 64)) narrow m l);
      }

-- ---- kind 5

module _ (j : Job) (a cell : ℕ) where
  -- p makes a of as many blocks as the cell says
  abbrev of_cell : List ℕ → Bool
  of_cell p = is_making j a p && eqb (sum p) cell

  -- where q makes a, it has no fewer blocks
  abbrev no_fewer : List ℕ → Bool
  no_fewer q = exact j a q implies leb cell (sum q)

  -- the cell is the fewest blocks for a
  abbrev is_least : Bool
  is_least = limits_right free j (labels j) && (some (block_limits j a) of_cell && all (block_limits j a) no_fewer)

  -- there is no way to make a, and the cell says so
  abbrev is_none : Bool
  is_none = unmade j a && eqb cell no_way

  least_out : T is_least → LeastShown (MadeOf j (labels j) a) cell
  least_out t =
      let (right, t₁) = and_yes (limits_right free j (labels j)) (some (block_limits j a) of_cell && all (block_limits j a) no_fewer) t in
      let (one, rest) = and_yes (some (block_limits j a) of_cell) (all (block_limits j a) no_fewer) t₁ in
      let (p, t₂) = some_out (block_limits j a) of_cell one in
      let (m, e) = and_yes (is_making j a p) (eqb (sum p) cell) t₂ in
      shown (record { picks = p; makes = makes_out j a p m; blocks = eqb_yes e })
      (λ x r. subst (λ (y : ℕ). cell ≤ y) r.blocks (leb_yes (implied (exact j a r.picks) (leb cell (sum r.picks))
      (all_out (block_limits j a) no_fewer rest r.picks (makes_within j a r.picks right r.makes)) (yes_eqb r.makes.sums_to))))

  none_out : T is_none → LeastShown (MadeOf j (labels j) a) cell
  none_out t =
      let (un, e) = and_yes (unmade j a) (eqb cell no_way) t in
      none_shown (λ x r. unmade_out j a un r.picks r.makes) (eqb_yes e)

module _ (j : Job) (cells : List ℕ) where
  -- `FewestRow` as a test
  unfoldable pub is_fewest_row : Bool
  unfolding below some all is_making limits limits_right unmade no_way
  is_fewest_row = below (suc j.budget) (λ a. is_least j a (at cells a) || is_none j a (at cells a))

  pub fewest_row_out : T is_fewest_row → FewestRow j cells
  unfolding is_fewest_row FewestRow
  fewest_row_out t a h =
      elim (or_yes (is_least j a (at cells a)) (is_none j a (at cells a))
      (below_out (suc j.budget) (λ a'. is_least j a' (at cells a') || is_none j a' (at cells a')) t a (suc-le-suc h)))
      [ inl s ↦ least_out j a (at cells a) s | inr n ↦ none_out j a (at cells a) n ]

-- ---- kind 6

module _ (j : Job) (words : List ℕ) (lists : List (List (List ℕ))) where
  -- the ways for a
  abbrev ways_of : ℕ → List (List ℕ)
  ways_of a = get_or lists a []

  -- the cell of a shows how many they are
  abbrev is_ways_cell : ℕ → Bool
  is_ways_cell a = are_ways j a (ways_of a) && eqb (at words a) (min (length (ways_of a)) too_many)

  -- `WaysRow` as a test: the ways for each amount are listed
  unfoldable pub is_ways_row : Bool
  unfolding below are_ways too_many
  is_ways_row = below (suc j.budget) is_ways_cell

  pub ways_row_out : T is_ways_row → WaysRow j words
  unfolding is_ways_row WaysRow
  ways_row_out t a h =
      let (w, e) =
      and_yes (are_ways j a (ways_of a)) (eqb (at words a) (min (length (ways_of a)) too_many))
      (below_out (suc j.budget) is_ways_cell t a (suc-le-suc h)) in
      record { many = length (ways_of a); how_many = ways_out j a (ways_of a) w; lesser = eqb_yes e }

-- ---- kind 8

module _ (j : Job) (t cell : ℕ) where
  -- p is a selection of the first x labels that weighs t
  abbrev reaching : ℕ → List ℕ → Bool
  reaching x p = selects once j x p && exact j t p

  -- so many of the first labels reach t, and no fewer do
  abbrev is_first : Bool
  is_first = leb cell (labels j) && (some (once_limits j cell) (reaching cell) && below cell (λ x. misses j x t))

  -- no labels reach t, and the cell says so
  abbrev is_unreached : Bool
  is_unreached = misses j (labels j) t && eqb cell no_way

  first_out : t ≤ j.budget → T is_first → LeastShown (ReachedBy j (labels j) t) cell
  first_out within h =
      let (few, h₁) = and_yes (leb cell (labels j)) (some (once_limits j cell) (reaching cell) && below cell (λ x. misses j x t)) h in
      let (one, fewer) = and_yes (some (once_limits j cell) (reaching cell)) (below cell (λ x. misses j x t)) h₁ in
      let (p, h₂) = some_out (once_limits j cell) (reaching cell) one in
      let (s, e) = and_yes (selects once j cell p) (exact j t p) h₂ in
      shown (record { among = leb_yes few; reached = reached_as p (selects_out once j cell p s) (eqb_yes e) })
      (λ x d.
      elim (dec_le cell x) [
        | yes le ↦ le
        | no gt ↦ absurd (misses_out j x t within (below_out cell (λ y. misses j y t) fewer x (omega arith)) _ d.reached.weighs)
      ])

  unreached_out : t ≤ j.budget → T is_unreached → LeastShown (ReachedBy j (labels j) t) cell
  unreached_out within h =
      let (missed, e) = and_yes (misses j (labels j) t) (eqb cell no_way) h in
      none_shown
      (λ x d. misses_out j (labels j) t within missed _ (reached_more j x (labels j) t d.among d.reached).weighs)
      (eqb_yes e)

module _ (j : Job) (cells : List ℕ) where
  -- `FirstRow` as a test
  unfoldable pub is_first_row : Bool
  unfolding below some selects limits misses no_way
  is_first_row = below (suc j.budget) (λ t. is_first j t (at cells t) || is_unreached j t (at cells t))

  pub first_row_out : T is_first_row → FirstRow j cells
  unfolding is_first_row FirstRow
  first_row_out h t within =
      elim (or_yes (is_first j t (at cells t)) (is_unreached j t (at cells t))
      (below_out (suc j.budget) (λ t'. is_first j t' (at cells t') || is_unreached j t' (at cells t')) h t (suc-le-suc within)))
      [ inl s ↦ first_out j t (at cells t) within s | inr n ↦ unreached_out j t (at cells t) within n ]
