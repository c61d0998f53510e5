-- The quick answer's promises: no second choice is left; the list fits, and twice its value is at least the best value; and what every answer is
-- held to.
-- Assumes nothing.
use mathlib.Core.Path.{◌∙◌, ◌≡◌, ap, ap₂, refl, subst, sym}
use Prim.Native.Nat.{ℕ, zero, suc, ◌*◌, ◌≤◌, ◌<◌}
use native.Mathlib.Omega.{arith}
use mathlib.Core.Bool.{Bool, true, false, ◌&&◌}
use mathlib.Core.List.{List, []}
use lib.Dec.{leb, ltb}
use lib.ListN.{length, take}
use borrow.Author.Tests.{ltb-true, ltb-false}
use mir.Facts.{and_yes, leb_yes}
use Rattle.meaning.specs.Hands.{Quick}
use Rattle.meaning.specs.Hands as Hands
use Rattle.meaning.specs.Lists.{at, total, if}
use Rattle.meaning.specs.Job.{Job, labels, once, packing}
use Rattle.meaning.specs.Refusals.{rules_of}
use Rattle.meaning.specs.Knapsacks.{Fits, BestValue, MayPick}
use Rattle.meaning.specs.Answers.{QuickNumbers, quick_numbers}
use Rattle.meaning.specs.Quick.{Greedy, Single, quick_refusal, worthier, BothFilled, NoneFilled, FilledAs, Filled}
use Rattle.meaning.specs.Quick.{Worthier, the_first, the_second, EmptyPart, PickedAs, Picked}
use Rattle.meaning.specs.Host.{QuickHost}
use Rattle.meaning.proofs.Unique.{holds_unique}
use Rattle.meaning.proofs.Laws.{holds_first, held_at}
use Rattle.meaning.proofs.Valid.{has_passed, is_valid, past_if, Valid, weight_rule}
use Rattle.meaning.proofs.QuickLists.{one_greedy, one_single}
use Rattle.meaning.proofs.QuickFits.{greedy_fits, greedy_ones, single_fits, single_long}
use Rattle.meaning.proofs.QuickHalf.{both_worth, single_worth}

-- ---- the numbers settle the answer itself

-- the answer that says these numbers, by which list it names
unsay : ℕ → QuickNumbers → Quick
unsay zero s = Hands.Refused s.refusal
unsay (suc zero) s = Hands.First s.value
unsay (suc (suc k)) s = Hands.Second s.value

unsaid : (a : Quick) → unsay (quick_numbers a).which (quick_numbers a) ≡ a
unfolding unsay quick_numbers
unsaid (Hands.Refused r) = refl
unsaid (Hands.First v) = refl
unsaid (Hands.Second v) = refl

pub quick_numbers_unique : {a b : Quick} → quick_numbers a ≡ quick_numbers b → a ≡ b
quick_numbers_unique {a} {b} e = sym (unsaid a) ∙ ap (λ (s : QuickNumbers). unsay s.which s) e ∙ unsaid b

-- ---- a job that isn't refused

-- it is a valid knapsack, and each list has a place for every label
pub record Fillable (j : Job) (first-length second-length : ℕ) : Type 0 where
  pub valid : Valid once j
  pub in_first : labels j ≤ first-length
  pub in_second : labels j ≤ second-length

pub is_fillable : (j : Job) (m n : ℕ) → quick_refusal j m n ≡ 0 → Fillable j m n
unfolding quick_refusal
is_fillable j m n e =
    let p = has_passed (rules_of (packing once)) j _ e in
    let (room, none) = past_if (leb (labels j) m && leb (labels j) n) 5 0 p.later_none in
    let (one, other) = and_yes (leb (labels j) m) (leb (labels j) n) room in
    record { valid = is_valid once j _ p; in_first = leb_yes one; in_second = leb_yes other }

light : (j : Job) (m n : ℕ) → quick_refusal j m n ≡ 0 → (i : ℕ) → i < labels j → 1 ≤ at j.weights i
light j m n e = weight_rule once j (is_fillable j m n e).valid

-- what the answer says of lists that are worth x and y
says : Bool → ℕ → ℕ → Quick
unfolding if
says single_wins x y = if single_wins (Hands.Second y) (Hands.First x)

-- each of the two is worth no more than the worthier
no_less : (b : Bool) (x y : ℕ) → b ≡ ltb x y → (x ≤ (quick_numbers (says b x y)).value) × (y ≤ (quick_numbers (says b x y)).value)
unfolding says quick_numbers if
no_less true x y e = let more = ltb-true x y (sym e) in (omega arith, omega arith)
no_less false x y e = let less = ltb-false x y (sym e) in (omega arith, omega arith)

-- it names a list: the first with its worth, or the second with its worth, which is more
no_refusal : (b : Bool) (x y : ℕ) → ¬ (0 ≡ (quick_numbers (says b x y)).which)
unfolding says quick_numbers if
no_refusal true x y h = omega arith
no_refusal false x y h = omega arith

names_first : (b : Bool) (x y v : ℕ) → quick_numbers (Hands.First v) ≡ quick_numbers (says b x y) → v ≡ x
unfolding says quick_numbers if
names_first true x y v h = let wrong : ◌≡◌ {A = ℕ} 1 2 = ap (λ (n : QuickNumbers). n.which) h in absurd (omega arith)
names_first false x y v h = ap (λ (n : QuickNumbers). n.value) h

names_second : (b : Bool) (x y v : ℕ) → b ≡ ltb x y → quick_numbers (Hands.Second v) ≡ quick_numbers (says b x y) → (v ≡ y) × (x < v)
unfolding says quick_numbers if
names_second true x y v t h = let same : v ≡ y = ap (λ (n : QuickNumbers). n.value) h in (same, omega (arith, ltb-true x y (sym t)))
names_second false x y v t h = let wrong : ◌≡◌ {A = ℕ} 2 1 = ap (λ (n : QuickNumbers). n.which) h in absurd (omega arith)

-- ---- the call that fills both lists

-- one answer, and one content of each list
pub record OneFilling (a a' : Quick) (first first' second second' : List ℕ) : Type 0 where
  pub answer : a ≡ a'
  pub in_first : first ≡ first'
  pub in_second : second ≡ second'

module _ (j : Job) (first second : List ℕ) where
  filled_unique : (r : ℕ) (a a' : Quick) (f f' s s' : List ℕ) → quick_refusal j (length first) (length second) ≡ r
      → FilledAs r j first second a f s → FilledAs r j first second a' f' s' → OneFilling a a' f f' s s'
  unfolding FilledAs
  filled_unique zero a a' f f' s s' e x y =
      let greedy = one_greedy j (light j _ _ e) x.greedy y.greedy x.is_greedy y.is_greedy in
      let single = one_single j x.single y.single x.is_single y.is_single in
      record {
        answer = quick_numbers_unique (x.numbers ∙ ap₂ (λ (g l : List ℕ). quick_numbers (worthier j g l)) greedy single ∙ sym y.numbers);
        in_first = holds_unique _ _ _ _ _ greedy x.first_holds y.first_holds;
        in_second = holds_unique _ _ _ _ _ single x.second_holds y.second_holds;
      }
  filled_unique (suc r) a a' f f' s s' e x y =
      record {
        answer = quick_numbers_unique (x.numbers ∙ sym y.numbers);
        in_first = x.first_kept ∙ sym y.first_kept;
        in_second = x.second_kept ∙ sym y.second_kept;
      }

  pub no_second_filling : (a a' : Quick) (f f' s s' : List ℕ) → Filled j first second a f s → Filled j first second a' f' s'
      → OneFilling a a' f f' s s'
  no_second_filling a a' f f' s s' x y = filled_unique (quick_refusal j (length first) (length second)) a a' f f' s s' refl x.kept y.kept

  -- a refused call names its refusal and leaves both lists
  pub refused_filling : (r : ℕ) → ¬ (r ≡ 0) → r ≡ quick_refusal j (length first) (length second) → Filled j first second (Hands.Refused r) first second
  unfolding FilledAs
  refused_filling zero Some-number e = absurd (Some-number refl)
  refused_filling (suc r) Some-number e = record { kept = rw (← e) (record { numbers = refl; first_kept = refl; second_kept = refl }) }

  module _ (ok : quick_refusal j (length first) (length second) ≡ 0) where
    pub filling : {a : Quick} {f s : List ℕ} → BothFilled j first second a f s → Filled j first second a f s
    unfolding FilledAs
    filling x = record { kept = rw ok x }

    module _ (a : Quick) (f s : List ℕ) (filled : Filled j first second a f s) where
      pub both : BothFilled j first second a f s
      unfolding FilledAs
      both = rw ok at filled.kept

      abbrev greedy_worth : ℕ
      greedy_worth = total j.values both.greedy

      abbrev alone_worth : ℕ
      alone_worth = total j.values both.single

      says_so : quick_numbers a ≡ quick_numbers (says (ltb greedy_worth alone_worth) greedy_worth alone_worth)
      unfolding says worthier
      says_so = both.numbers

      value_of : (greedy_worth ≤ (quick_numbers a).value) × (alone_worth ≤ (quick_numbers a).value)
      value_of = rw says_so (no_less _ greedy_worth alone_worth refl)

      -- twice the value is at least the best value
      pub half_of_best : (best : ℕ) → BestValue once j (labels j) j.budget best → best ≤ 2 * (quick_numbers a).value
      half_of_best best b =
          omega (
            arith,
            b.value,
            both_worth j (light j (length first) (length second) ok) both.greedy b.picks both.is_greedy b.best.fits
                both.single both.is_single,
            value_of,
          )

      -- it is no refusal
      pub refuses_none : (r : ℕ) → ¬ (a ≡ Hands.Refused r)
      unfolding quick_numbers
      refuses_none r e = no_refusal _ greedy_worth alone_worth (ap (λ (n : QuickNumbers). n.which) (ap quick_numbers (sym e) ∙ says_so))

      -- and worth no less than any label that fits
      pub worth_a_label : (k : ℕ) → k < labels j → at j.weights k ≤ j.budget → at j.values k ≤ (quick_numbers a).value
      worth_a_label k h fits =
          omega (arith, single_worth j (light j (length first) (length second) ok) both.single both.is_single k h fits, value_of)

      -- each place of either list is a pick, 0 or 1, whatever stood there
      pub first_written : (i : ℕ) → i < labels j → at f i ≤ 1
      first_written i h =
          omega (
            arith,
            held_at _ _ _ i both.first_holds (omega (arith, both.is_greedy.one_each)),
            greedy_ones j both.greedy both.is_greedy i h,
          )

      pub second_written : (i : ℕ) → i < labels j → at s i ≤ 1
      unfolding MayPick
      second_written i h =
          omega (
            arith,
            held_at _ _ _ i both.second_holds (omega (arith, single_long j both.single both.is_single)),
            (single_fits j both.single both.is_single).selection.allowed i h,
          )

      -- the value is that of the list which stands where the answer says; the second list is named only where it is worth more
      pub first_worth : (v : ℕ) → a ≡ Hands.First v → v ≡ total j.values (take (labels j) f)
      first_worth v e =
          names_first _ greedy_worth alone_worth v (ap quick_numbers (sym e) ∙ says_so)
          ∙ ap (total j.values) (sym (holds_first _ _ _ _ both.first_holds both.is_greedy.one_each))

      pub second_worth : (v : ℕ) → a ≡ Hands.Second v → (v ≡ total j.values (take (labels j) s)) × (total j.values (take (labels j) f) < v)
      second_worth v e =
          let (same, more) = names_second _ greedy_worth alone_worth v refl (ap quick_numbers (sym e) ∙ says_so) in (
            same ∙ ap (total j.values) (sym (holds_first _ _ _ _ both.second_holds (single_long j both.single both.is_single))),
            rw (holds_first _ _ _ _ both.first_holds both.is_greedy.one_each) more,
          )

      -- so the first n places of that list are the worthier list
      module _ (p q : ℕ × ℕ) where
        in_first : take (labels j) f ≡ both.greedy
        in_first = holds_first _ _ _ _ both.first_holds both.is_greedy.one_each

        in_second : take (labels j) s ≡ both.single
        in_second = holds_first _ _ _ _ both.second_holds (single_long j both.single both.is_single)

        first_handed : (v : ℕ) → a ≡ Hands.First v → Worthier j p q p (take (labels j) f)
        unfolding quick_numbers
        first_handed v e =
            let value : (quick_numbers a).value ≡ v = ap (λ (x : Quick). (quick_numbers x).value) e in
            the_first both.single refl (subst (Greedy j) (sym in_first) both.is_greedy) both.is_single
            (omega (arith, value_of.1, first_worth v e))

        second_handed : (v : ℕ) → a ≡ Hands.Second v → Worthier j p q q (take (labels j) s)
        second_handed v e =
            let (same, more) = second_worth v e in
            the_second both.greedy refl (subst (Single j) (sym in_second) both.is_single) both.is_greedy
            (omega (arith, ap (total j.values) in_first))

-- ---- the call that hands back one of them

-- what is handed back, by the answer of the call that fills both lists
module _ (j : Job) (first second : List ℕ) (a : Quick) (f s : List ℕ) (filled : Filled j first second a f s) (p q : ℕ × ℕ) where
  abbrev asked : ℕ
  asked = quick_refusal j (length first) (length second)

  by_number : (place : ℕ × ℕ) (l : List ℕ) → (asked ≡ 0 → Worthier j p q place l) → ((r : ℕ) → asked ≡ suc r → EmptyPart p place l)
      → Picked j (length first) (length second) p q place l
  unfolding PickedAs
  by_number place l some none = record { kept = go asked refl }
    where
      go : (r : ℕ) → asked ≡ r → PickedAs r j p q place l
      go zero e = some e
      go (suc r) e = none r e

  -- a refused call names no list
  refused_which : (r : ℕ) → asked ≡ suc r → (quick_numbers a).which ≡ 0
  unfolding FilledAs quick_numbers
  refused_which r e = let n : NoneFilled (suc r) first second a f s = rw e at filled.kept in ap (λ (x : QuickNumbers). x.which) n.numbers

  -- so one that names a list isn't refused
  pub named : ¬ ((quick_numbers a).which ≡ 0) → asked ≡ 0
  named some = go asked refl
    where
      go : (r : ℕ) → asked ≡ r → asked ≡ 0
      go zero e = e
      go (suc r) e = absurd (some (refused_which r e))

  pub picks_none : (r : ℕ) → a ≡ Hands.Refused r → Picked j (length first) (length second) p q p []
  picks_none r is =
      by_number p [] (λ ok. absurd (refuses_none j first second ok a f s filled r is)) (λ r' e. record { of_first = refl; empty = refl })

  pub picks_first : (v : ℕ) → a ≡ Hands.First v → Picked j (length first) (length second) p q p (take (labels j) f)
  unfolding quick_numbers
  picks_first v is =
      by_number p _ (λ ok. first_handed j first second ok a f s filled p q v is)
      (λ r e. let wrong : ◌≡◌ {A = ℕ} 1 0 = rw is at (refused_which r e) in absurd (omega arith))

  pub picks_second : (v : ℕ) → a ≡ Hands.Second v → Picked j (length first) (length second) p q q (take (labels j) s)
  unfolding quick_numbers
  picks_second v is =
      by_number q _ (λ ok. second_handed j first second ok a f s filled p q v is)
      (λ r e. let wrong : ◌≡◌ {A = ℕ} 2 0 = rw is at (refused_which r e) in absurd (omega arith))

-- one list, at one place
pub record OnePick (place place' : ℕ × ℕ) (p p' : List ℕ) : Type 0 where
  pub where_it_is : place ≡ place'
  pub list : p ≡ p'

module _ (j : Job) (m n : ℕ) (first second : ℕ × ℕ) where
  -- what is handed back where the call isn't refused
  module _ (ok : quick_refusal j m n ≡ 0) where
    worthier_unique : (place place' : ℕ × ℕ) (p p' : List ℕ) → Worthier j first second place p → Worthier j first second place' p'
        → OnePick place place' p p'
    worthier_unique place place' p p' (the_first s at_first g one more) (the_first s' at-first' g' one' more') =
        record { where_it_is = at_first ∙ sym at-first'; list = one_greedy j (light j m n ok) p p' g g' }
    worthier_unique place place' p p' (the_first s at_first g one more) (the_second g' at_second one' greedy more') =
        absurd
        (omega (arith, ap (total j.values) (one_greedy j (light j m n ok) p g' g greedy), ap (total j.values) (one_single j s p' one one')))
    worthier_unique place place' p p' (the_second g at_second one greedy more) (the_first s at_first g' one' more') =
        absurd
        (omega (arith, ap (total j.values) (one_greedy j (light j m n ok) g p' greedy g'), ap (total j.values) (one_single j p s one one')))
    worthier_unique place place' p p' (the_second g at_second one greedy more) (the_second g' at-second' one' greedy' more') =
        record { where_it_is = at_second ∙ sym at-second'; list = one_single j p p' one one' }

    module _ (place : ℕ × ℕ) (p : List ℕ) (picked : Picked j m n first second place p) where
      pub handed_back : Worthier j first second place p
      unfolding PickedAs
      handed_back = rw ok at picked.kept

      pub pick_fits : Fits once j (labels j) j.budget p
      pick_fits = elim handed_back [
        | the_first s place_is greedy single more ↦ greedy_fits j (light j m n ok) p greedy
        | the_second g place_is single greedy more ↦ single_fits j p single
      ]

      -- twice its worth is at least the best value
      pub half_handed_back : (best : ℕ) → BestValue once j (labels j) j.budget best → best ≤ 2 * total j.values p
      half_handed_back best b = elim handed_back [
        | the_first s place_is greedy single more ↦
            omega (arith, b.value, both_worth j (light j m n ok) p b.picks greedy b.best.fits s single)
        | the_second g place_is single greedy more ↦
            omega (arith, b.value, both_worth j (light j m n ok) g b.picks greedy b.best.fits p single)
      ]

  pub no_second_pick : (place place' : ℕ × ℕ) (p p' : List ℕ) → Picked j m n first second place p → Picked j m n first second place' p'
      → OnePick place place' p p'
  unfolding PickedAs
  no_second_pick place place' p p' x y = go (quick_refusal j m n) refl x.kept y.kept
    where
      go : (r : ℕ) → quick_refusal j m n ≡ r → PickedAs r j first second place p → PickedAs r j first second place' p' → OnePick place place' p p'
      go zero e x y = worthier_unique e place place' p p' x y
      go (suc r) e x y = record { where_it_is = x.of_first ∙ sym y.of_first; list = x.empty ∙ sym y.empty }

-- ---- the entry for C

-- one number for each, and one content of each list
pub record OneQuickCall (r r' which which' value value' : ℕ) (first first' second second' : List ℕ) : Type 0 where
  pub refusal : r ≡ r'
  pub which_same : which ≡ which'
  pub value_same : value ≡ value'
  pub in_first : first ≡ first'
  pub in_second : second ≡ second'

pub one_host_quick : (j : Job) (first second f f' s s' : List ℕ) (r r' which which' value value' : ℕ)
    → QuickHost j first second r which value f s → QuickHost j first second r' which' value' f' s'
    → OneQuickCall r r' which which' value value' f f' s s'
one_host_quick j first second f f' s s' r r' which which' value value' x y =
    let one = no_second_filling j first second x.answer y.answer f f' s s' x.filled y.filled in
    let said : quick_numbers x.answer ≡ quick_numbers y.answer = ap quick_numbers one.answer in
    record {
      refusal = x.refusal ∙ ap (λ (n : QuickNumbers). n.refusal) said ∙ sym y.refusal;
      which_same = x.which_is ∙ ap (λ (n : QuickNumbers). n.which) said ∙ sym y.which_is;
      value_same = x.value_is ∙ ap (λ (n : QuickNumbers). n.value) said ∙ sym y.value_is;
      in_first = one.in_first;
      in_second = one.in_second;
    }
