-- On a small job the meanings can be tested over all lists of counts: each test below, where it computes to true, shows its meaning.
-- Assumes nothing.
use mathlib.Core.Path.{◌≡◌, refl, sym, ◌∙◌, subst}
use Prim.Native.Nat.{ℕ, ◌/◌, ◌≤◌, ◌<◌}
use native.Mathlib.Nat.{le_of_eq}
use native.Mathlib.Omega.{arith}
use mathlib.Core.Bool.{Bool, true, not, ◌&&◌}
use mathlib.Core.List.Memᴰ
use mathlib.Core.List.{List, map, Memᴰ}
use lib.Dec.{T, leb, ltb, eqb, leb→le, ltb→lt, eqb→eq, eqb_refl}
use lib.ListN.{get_or-replicate, length, length-replicate, replicate, take}
use lib.Seq.{get_or-take, length-take-le}
use mir.Facts.{and_yes, eqb_no, eqb_yes, leb_yes, yes_eqb, yes_leb}
use Rattle.meaning.specs.Lists.{at, sum, total, every}
use Rattle.meaning.specs.Counting.{Counted, Distinct}
use Rattle.meaning.specs.Job.{Job, labels, Knapsack, once, limited, free}
use Rattle.meaning.specs.Orders.{Order, last_least, first_most, last_most, Earlier, NoWorse, AgreeEarlier}
use Rattle.meaning.specs.Knapsacks.{MayPick, Selection, Fits, order_of, BestPicks}
use Rattle.meaning.specs.Sums.{Weighs, Reached, ReachedWithin}
use Rattle.meaning.specs.Behind.{Behind, total_order}
use Rattle.meaning.specs.Blocks.{Makes, Laid, WaysFor, block_order}
use Rattle.meaning.proofs.Tests.{◌implies◌, implied, implies_intro, below, below_out, below_in}
use Rattle.meaning.proofs.Tests.{Within, all, all_out, within_each, within_weight}
use Rattle.meaning.proofs.Members.{every_out, member, member_out, no_repeats, no_repeats_out, same, same_out, same_refl}
use Rattle.meaning.proofs.Reaching.{reached_as}

-- ---- the orders of choice

-- `Earlier` as a test
unfoldable pub is_earlier : Order → ℕ → ℕ → Bool
is_earlier last_least i m = ltb m i
is_earlier first_most i m = ltb i m
is_earlier last_most i m = ltb m i

-- `NoWorse` as a test
unfoldable pub is_no_worse : Order → ℕ → ℕ → Bool
is_no_worse last_least x y = leb x y
is_no_worse first_most x y = leb y x
is_no_worse last_most x y = leb y x

earlier_out : (o : Order) (i m : ℕ) → T (is_earlier o i m) → Earlier o i m
unfolding is_earlier Earlier
earlier_out last_least i m t = ltb→lt m i t
earlier_out first_most i m t = ltb→lt i m t
earlier_out last_most i m t = ltb→lt m i t

no_worse_out : (o : Order) (x y : ℕ) → T (is_no_worse o x y) → NoWorse o x y
unfolding is_no_worse NoWorse
no_worse_out last_least x y t = leb→le x y t
no_worse_out first_most x y t = leb→le y x t
no_worse_out last_most x y t = leb→le y x t

-- `AgreeEarlier` as a test
unfoldable pub agrees : Order → ℕ → ℕ → List ℕ → List ℕ → Bool
unfolding below is_earlier
agrees o n m q p = below n (λ i. is_earlier o i m implies eqb (at q i) (at p i))

agrees_in : (o : Order) (n m : ℕ) (q p : List ℕ) → AgreeEarlier o n m q p → T (agrees o n m q p)
unfolding agrees AgreeEarlier
agrees_in o n m q p h =
    below_in n (λ i. is_earlier o i m implies eqb (at q i) (at p i))
    (λ i k. implies_intro (is_earlier o i m) (eqb (at q i) (at p i)) (λ t. yes_eqb (h i k (earlier_out o i m t))))

-- p is settled no worse than q at each label
unfoldable pub settles : Order → ℕ → List ℕ → List ℕ → Bool
unfolding below agrees is_no_worse
settles o n p q = below n (λ m. agrees o n m q p implies is_no_worse o (at p m) (at q m))

settles_out : (o : Order) (n : ℕ) (p q : List ℕ) → T (settles o n p q) → (m : ℕ) → m < n → AgreeEarlier o n m q p → NoWorse o (at p m) (at q m)
unfolding settles
settles_out o n p q t m h a =
    no_worse_out o (at p m) (at q m)
    (implied (agrees o n m q p) (is_no_worse o (at p m) (at q m))
    (below_out n (λ m'. agrees o n m' q p implies is_no_worse o (at p m') (at q m')) t m h) (agrees_in o n m q p a))

-- ---- selections

-- `MayPick` as a test
unfoldable pub is_allowed : Knapsack → ℕ → ℕ → Bool
is_allowed once copies x = leb x 1
is_allowed limited copies x = leb x copies
is_allowed free copies x = true

allowed_out : (k : Knapsack) (c x : ℕ) → T (is_allowed k c x) → MayPick k c x
unfolding is_allowed MayPick
allowed_out once c x t = leb→le x 1 t
allowed_out limited c x t = leb→le x c t
allowed_out free c x t = tt

-- `Selection` of the first i labels as a test
unfoldable pub selects : Knapsack → Job → ℕ → List ℕ → Bool
unfolding below is_allowed
selects k j i p = eqb (length p) i && below i (λ m. is_allowed k (at j.copies m) (at p m))

pub selects_out : (k : Knapsack) (j : Job) (i : ℕ) (p : List ℕ) → T (selects k j i p) → Selection k j i p
unfolding selects
selects_out k j i p t =
    let (e, h) = and_yes (eqb (length p) i) (below i (λ m. is_allowed k (at j.copies m) (at p m))) t in
    record {
      one_each = eqb_yes e;
      allowed = λ m l. allowed_out k (at j.copies m) (at p m) (below_out i (λ m'. is_allowed k (at j.copies m') (at p m')) h m l);
    }

-- and of all labels
unfoldable pub is_selection : Knapsack → Job → List ℕ → Bool
unfolding selects
is_selection k j p = selects k j (labels j) p

pub selection_out : (k : Knapsack) (j : Job) (p : List ℕ) → T (is_selection k j p) → Selection k j (labels j) p
unfolding is_selection
selection_out k j p t = selects_out k j (labels j) p t

-- limits that no selection of the first i labels that weighs at most c passes, where `limits_right` holds
unfoldable pub limits : Knapsack → Job → ℕ → ℕ → List ℕ
limits once j i c = replicate i 1
limits limited j i c = take i j.copies
limits free j i c = map (λ (w : ℕ). c / w) j.weights

-- what a job and i have to keep for the limits to be right: in kind 3, i is all labels
unfoldable pub limits_right : Knapsack → Job → ℕ → Bool
unfolding every
limits_right once j i = true
limits_right limited j i = leb i (length j.copies)
limits_right free j i = eqb i (labels j) && every (leb 1) j.weights

-- such a selection is within them
pub limits_hold : (k : Knapsack) (j : Job) (i c : ℕ) (q : List ℕ) → T (limits_right k j i) → Selection k j i q → total j.weights q ≤ c
    → Within (limits k j i c) q
unfolding limits limits_right labels MayPick
limits_hold once j i c q t s h =
    let l : length {A = ℕ} (replicate i 1) ≡ i = length-replicate i 1 in
    within_each (replicate i 1) q (s.one_each ∙ sym l)
    (λ m k. let k' : m < i = omega arith in omega (arith, get_or-replicate {A = ℕ} i m 1 0 k', s.allowed m k'))
limits_hold limited j i c q t s h =
    let long : i ≤ length j.copies = leb_yes t in
    let l : length (take i j.copies) ≡ i = length-take-le i j.copies long in
    within_each (take i j.copies) q (s.one_each ∙ sym l)
    (λ m k. let k' : m < i = omega arith in omega (arith, get_or-take i j.copies m 0 k', s.allowed m k'))
limits_hold free j i c q t s h =
    let (e, positive) = and_yes (eqb i (length j.weights)) (every (leb 1) j.weights) t in
    within_weight j.weights q c positive (s.one_each ∙ eqb_yes e) h

-- ---- the chosen list, and the list of all: tests over every list within the limits

module _ (o : Order) (n : ℕ) (limits : List ℕ) (suits : List ℕ → Bool) (good : List ℕ → List ℕ → Bool) (p : List ℕ) where
  -- p is as good as every list that suits, and settled no worse than those that are as good as p
  unfoldable pub is_chosen : Bool
  unfolding all settles
  is_chosen = all limits (λ q. suits q implies (good p q && (good q p implies settles o n p q)))

  module _ (t : T is_chosen) (q : List ℕ) (within : Within limits q) (suited : T (suits q)) where
    against : T (good p q) × T (good q p implies settles o n p q)
    unfolding is_chosen
    against =
        and_yes (good p q) (good q p implies settles o n p q)
        (implied (suits q) (good p q && (good q p implies settles o n p q))
        (all_out limits (λ q'. suits q' implies (good p q' && (good q' p implies settles o n p q'))) t q within) suited)

    pub as_good : T (good p q)
    as_good = against.0

    pub well_settled : T (good q p) → (m : ℕ) → m < n → AgreeEarlier o n m q p → NoWorse o (at p m) (at q m)
    well_settled tied = settles_out o n p q (implied (good q p) (settles o n p q) against.1 tied)

module _ {A : Type 0} (eq : A → A → Bool) (name : List ℕ → A) (limits : List ℕ) (suits : List ℕ → Bool) (names : List A) where
  -- no name is listed twice, and the name of every list that suits is listed
  unfoldable pub lists_all : Bool
  unfolding no_repeats all member
  lists_all = no_repeats eq names && all limits (λ q. suits q implies member eq (name q) names)

  module _ (eq-out : (x y : A) → T (eq x y) → x ≡ y) (eq_refl : (x : A) → T (eq x x)) (t : T lists_all) where
    parts : T (no_repeats eq names) × T (all limits (λ q. suits q implies member eq (name q) names))
    unfolding lists_all
    parts = and_yes (no_repeats eq names) (all limits (λ q. suits q implies member eq (name q) names)) t

    names_distinct : Distinct names
    names_distinct = no_repeats_out eq eq_refl names parts.0

    named : (q : List ℕ) → Within limits q → T (suits q) → Memᴰ (name q) names
    named q within suited =
        member_out eq eq-out (name q) names
        (implied (suits q) (member eq (name q) names) (all_out limits (λ q'. suits q' implies member eq (name q') names) parts.1 q within) suited)

-- ---- knapsacks

-- q weighs at most c
abbrev pub fitting : Job → ℕ → List ℕ → Bool
fitting j c q = leb (total j.weights q) c

-- p is worth no less than q
abbrev worth_no_less : Job → List ℕ → List ℕ → Bool
worth_no_less j p q = leb (total j.values q) (total j.values p)

module _ (k : Knapsack) (j : Job) (p : List ℕ) where
  -- the limits of a fitting selection
  abbrev pick_limits : List ℕ
  pick_limits = limits k j (labels j) j.budget

  abbrev best_chosen : Bool
  unfolding is_chosen limits
  best_chosen = is_chosen (order_of k) (labels j) pick_limits (fitting j j.budget) (worth_no_less j) p

  -- p is the picks of the job
  unfoldable pub picked : Bool
  unfolding is_selection limits_right best_chosen
  picked = is_selection k j p && (fitting j j.budget p && (limits_right k j (labels j) && best_chosen))

  pub picked_out : T picked → BestPicks k j (labels j) j.budget p
  unfolding picked BestPicks best_chosen
  picked_out t =
      let (s, t₁) = and_yes (is_selection k j p) (fitting j j.budget p && (limits_right k j (labels j) && best_chosen)) t in
      let (w, t₂) = and_yes (fitting j j.budget p) (limits_right k j (labels j) && best_chosen) t₁ in
      let (right, c) = and_yes (limits_right k j (labels j)) best_chosen t₂ in
      let fits : Fits k j (labels j) j.budget p = record { selection = selection_out k j p s; weight = leb_yes w } in
      let within : (q : List ℕ) → Fits k j (labels j) j.budget q → Within pick_limits q =
      λ q f. limits_hold k j (labels j) j.budget q right f.selection f.weight in
      record {
        one_of =
            record {
              fits = fits;
              greatest = λ q f.
                  leb_yes (as_good (order_of k) (labels j) pick_limits (fitting j j.budget) (worth_no_less j) p c q (within q f) (yes_leb f.weight));
            };
        settled =
            λ m h q b. well_settled (order_of k) (labels j) pick_limits (fitting j j.budget) (worth_no_less j) p c q (within q b.fits)
            (yes_leb b.fits.weight) (yes_leb (b.greatest p fits)) m h;
      }

-- ---- sums

-- q sums to t
abbrev pub exact : Job → ℕ → List ℕ → Bool
exact j t q = eqb (total j.weights q) t

module _ (j : Job) (i : ℕ) where
  -- the limits of a selection of the first i labels
  abbrev pub once_limits : List ℕ
  once_limits = limits once j i j.budget

  -- a selection that weighs at most C is within them
  once_within : {t : ℕ} {q : List ℕ} → t ≤ j.budget → Weighs j i t q → Within once_limits q
  unfolding limits_right
  once_within {q = q} within d = limits_hold once j i j.budget q tt d.selection (omega (arith, d.weight))

  -- none of them weighs t
  unfoldable pub misses : ℕ → Bool
  unfolding all limits
  misses t = all once_limits (λ q. not (exact j t q))

  pub misses_out : (t : ℕ) → t ≤ j.budget → T (misses t) → (q : List ℕ) → ¬ Weighs j i t q
  unfolding misses
  misses_out t within h q d = eqb_no (all_out once_limits (λ q'. not (exact j t q')) h q (once_within within d)) d.weight

module _ (j : Job) where
  pub reached_by : (p : List ℕ) (t : ℕ) → T (is_selection once j p) → total j.weights p ≡ t → Reached j (labels j) t
  reached_by p t s e = reached_as p (selection_out once j p s) e

-- ---- the number of totals

module _ (j : Job) (ps : List (List ℕ)) where
  abbrev weighs : List ℕ → ℕ
  weighs p = total j.weights p

  -- p is a selection within the budget
  abbrev fits_once : List ℕ → Bool
  unfolding is_selection
  fits_once p = is_selection once j p && fitting j j.budget p

  -- each total within the budget is the weight of one of them, and no two weigh the same
  abbrev all_totals : Bool
  unfolding lists_all limits
  all_totals = lists_all eqb weighs (once_limits j (labels j)) (fitting j j.budget) (map weighs ps)

  -- the selections' weights are just the totals within the budget, each once
  unfoldable pub totalled : Bool
  unfolding every fits_once all_totals
  totalled = every fits_once ps && all_totals

  pub totalled_out : T totalled → Counted (ReachedWithin j (labels j)) (length (map weighs ps))
  unfolding totalled
  totalled_out h =
      let (a, l) = and_yes (every fits_once ps) all_totals h in
      record {
        those = map weighs ps;
        distinct = names_distinct eqb weighs (once_limits j (labels j)) (fitting j j.budget) (map weighs ps) eqb→eq eqb_refl l;
        no_others = λ t m.
            let (p, here, e) = Memᴰ.of_map weighs ps m in
            let (s, w) = and_yes (is_selection once j p) (fitting j j.budget p) (every_out fits_once ps a p here) in
            record { reached = reached_by j p t s e; within = subst (λ (z : ℕ). z ≤ j.budget) e (leb_yes w) };
        them_all = λ t r.
            let d = r.reached.weighs in
            subst (λ (z : ℕ). Memᴰ z (map weighs ps)) d.weight
            (named eqb weighs (once_limits j (labels j)) (fitting j j.budget) (map weighs ps) eqb→eq eqb_refl l r.reached.picks
            (once_within j (labels j) r.within d) (yes_leb {a = weighs r.reached.picks} {b = j.budget} (omega (arith, r.within, d.weight))));
        size = refl;
      }

-- ---- the labels behind a total

module _ (j : Job) (p : List ℕ) where
  -- of the selections of total C none is better than another
  abbrev behind_chosen : Bool
  unfolding is_chosen limits
  behind_chosen = is_chosen total_order (labels j) (once_limits j (labels j)) (exact j j.budget) (λ q r. true) p

  -- p is the picks of the job
  unfoldable pub is_behind : Bool
  unfolding is_selection behind_chosen
  is_behind = is_selection once j p && (exact j j.budget p && behind_chosen)

  pub behind_out : T is_behind → Behind j (labels j) j.budget p
  unfolding is_behind Behind behind_chosen
  behind_out t =
      let (s, t₁) = and_yes (is_selection once j p) (exact j j.budget p && behind_chosen) t in
      let (e, c) = and_yes (exact j j.budget p) behind_chosen t₁ in
      record {
        one_of = record { selection = selection_out once j p s; weight = eqb_yes e };
        settled =
            λ m h q d. well_settled total_order (labels j) (once_limits j (labels j)) (exact j j.budget) (λ q' r. true) p c q
            (once_within j (labels j) (omega arith) d) (yes_eqb d.weight) tt m h;
      }

  pub behind_weighs : T is_behind → Weighs j (labels j) j.budget p
  unfolding Behind
  behind_weighs t = (behind_out t).one_of

-- ---- blocks, for an amount a

module _ (j : Job) (a : ℕ) where
  -- the limits of a list that makes a
  abbrev pub block_limits : List ℕ
  block_limits = limits free j (labels j) a

  -- `Makes` of all sizes as a test
  unfoldable pub is_making : List ℕ → Bool
  is_making p = eqb (length p) (labels j) && exact j a p

  pub makes_out : (p : List ℕ) → T (is_making p) → Makes j (labels j) a p
  unfolding is_making
  makes_out p t = let (l, e) = and_yes (eqb (length p) (labels j)) (exact j a p) t in record { one_each = eqb_yes l; sums_to = eqb_yes e }

  pub makes_within : (q : List ℕ) → T (limits_right free j (labels j)) → Makes j (labels j) a q → Within block_limits q
  unfolding MayPick
  makes_within q t m =
      limits_hold free j (labels j) a q t (record { one_each = m.one_each; allowed = λ i h. tt }) (le_of_eq m.sums_to)

  -- no list sums to a
  unfoldable pub unmade : Bool
  unfolding all limits_right limits
  unmade = limits_right free j (labels j) && all block_limits (λ q. not (exact j a q))

  pub unmade_out : T unmade → (q : List ℕ) → ¬ Makes j (labels j) a q
  unfolding unmade
  unmade_out t q m =
      let (right, none) = and_yes (limits_right free j (labels j)) (all block_limits (λ q'. not (exact j a q'))) t in
      eqb_no (all_out block_limits (λ q'. not (exact j a q')) none q (makes_within q right m)) m.sums_to

-- p has no more blocks than q
abbrev no_more_blocks : List ℕ → List ℕ → Bool
no_more_blocks p q = leb (sum p) (sum q)

module _ (j : Job) (p : List ℕ) where
  abbrev fewest_chosen : Bool
  unfolding is_chosen limits
  fewest_chosen = is_chosen block_order (labels j) (block_limits j j.budget) (exact j j.budget) no_more_blocks p

  -- p is the list of blocks of the job
  unfoldable pub is_laid : Bool
  unfolding is_making limits_right fewest_chosen
  is_laid = is_making j j.budget p && (limits_right free j (labels j) && fewest_chosen)

  pub laid_out : T is_laid → Laid j j.budget p
  unfolding is_laid Laid fewest_chosen
  laid_out t =
      let (m, t₁) = and_yes (is_making j j.budget p) (limits_right free j (labels j) && fewest_chosen) t in
      let (right, c) = and_yes (limits_right free j (labels j)) fewest_chosen t₁ in
      let makes : Makes j (labels j) j.budget p = makes_out j j.budget p m in
      record {
        one_of =
            record {
              makes = makes;
              least = λ q n.
                  let within = makes_within j j.budget q right n in
                  leb_yes (as_good block_order (labels j) (block_limits j j.budget) (exact j j.budget) no_more_blocks p c q within (yes_eqb n.sums_to));
            };
        settled =
            λ i h q b. well_settled block_order (labels j) (block_limits j j.budget) (exact j j.budget) no_more_blocks p c q
            (makes_within j j.budget q right b.makes) (yes_eqb b.makes.sums_to) (yes_leb (b.least p makes)) i h;
      }

  pub laid_makes : T is_laid → Makes j (labels j) j.budget p
  unfolding Laid
  laid_makes t = (laid_out t).one_of.makes

-- ---- the number of ways

module _ (j : Job) (a : ℕ) (ps : List (List ℕ)) where
  -- each list that makes a is listed, and none twice
  abbrev all_ways : Bool
  unfolding lists_all same limits
  all_ways = lists_all same (λ q. q) (block_limits j a) (exact j a) ps

  -- the lists are just those that make a, each once
  unfoldable pub are_ways : Bool
  unfolding every is_making limits_right all_ways
  are_ways = every (is_making j a) ps && (limits_right free j (labels j) && all_ways)

  pub ways_out : T are_ways → WaysFor j (labels j) a (length ps)
  unfolding are_ways WaysFor
  ways_out h =
      let (t, h₁) = and_yes (every (is_making j a) ps) (limits_right free j (labels j) && all_ways) h in
      let (right, l) = and_yes (limits_right free j (labels j)) all_ways h₁ in
      record {
        those = ps;
        distinct = names_distinct same (λ q. q) (block_limits j a) (exact j a) ps same_out same_refl l;
        no_others = λ q m. makes_out j a q (every_out (is_making j a) ps t q m);
        them_all =
            λ q m. named same (λ q'. q') (block_limits j a) (exact j a) ps same_out same_refl l q (makes_within j a q right m) (yes_eqb m.sums_to);
        size = refl;
      }

-- for C
unfoldable pub is_counted : Job → List (List ℕ) → Bool
unfolding are_ways
is_counted j ps = are_ways j j.budget ps

pub counted_out : (j : Job) (ps : List (List ℕ)) → T (is_counted j ps) → WaysFor j (labels j) j.budget (length ps)
unfolding is_counted
counted_out j ps t = ways_out j j.budget ps t
