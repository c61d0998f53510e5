-- The lightest selections for a total, and the chosen one of them: with one label more, that is picked exactly where its cell differs from the one of
-- the row before.
-- Assumes nothing.
use mathlib.Core.Path.{◌≡◌, refl, sym, ap, ◌∙◌, subst}
use Prim.Native.Nat.{ℕ, suc, ◌+◌, ◌-◌, ◌*◌, ◌≤◌, zero-le}
use native.Mathlib.Nat.{le_refl, le_antisymm, mul-one, mul-zero, le_trans, le_of_eq}
use native.Mathlib.Decide.{dec_le}
use native.Mathlib.Omega.{arith}
use mathlib.Core.List.{List, [], ◌∷◌, ◌++◌}
use lib.ListN.{length, take}
use Rattle.meaning.specs.Lists.{at, total}
use Rattle.meaning.specs.Job.{Job, labels, once}
use Rattle.meaning.specs.Cells.{LeastShown, shown, none_shown}
use Rattle.meaning.specs.Orders.{last_least, Chosen}
use Rattle.meaning.specs.Knapsacks.{Fits, MayPick}
use Rattle.meaning.specs.Stated.{CutWeight, CutBest}
use Rattle.meaning.proofs.Totals.{total_cut, total_with, total_none, empty_of}
use Rattle.meaning.proofs.Steps.{fits_more, front_fits}
use Rattle.meaning.proofs.Shown.{shown_least}
use Rattle.meaning.proofs.OneOfEach.{only_choice, least_shown_unique}
use Rattle.meaning.proofs.Trace.{chosen_more}
use Rattle.meaning.proofs.CutCells.{weight_without, weight_with, parted, without, with_it, first_cell}

-- a selection of the first i labels, within C, with cut values of total t, and none such is lighter
pub record Lightest (j : Job) (cuts : List ℕ) (i t : ℕ) (p : List ℕ) : Type 0 where
  pub fits : Fits once j i j.budget p
  pub cut : total cuts p ≡ t
  pub lightest : (r : List ℕ) → Fits once j i j.budget r → total cuts r ≡ t → total j.weights p ≤ total j.weights r

-- the one that is chosen
abbrev pub ChosenFor : Job → List ℕ → ℕ → ℕ → List ℕ → Type 0
ChosenFor j cuts i t p = Chosen last_least i (Lightest j cuts i t) p

module _ (j : Job) (cuts : List ℕ) where
  abbrev weighs : List ℕ → ℕ
  weighs p = total j.weights p

  as_weight : (i t : ℕ) (p : List ℕ) → Fits once j i j.budget p → total cuts p ≡ t → CutWeight j cuts i t (weighs p)
  as_weight i t p f e = record { picks = p; fits = f; cut = e; heavy = refl }

  -- such a selection weighs what the cell shows
  pub lightest_weighs : (i t x : ℕ) (p : List ℕ) → LeastShown (CutWeight j cuts i t) x → Lightest j cuts i t p → weighs p ≡ x
  lightest_weighs i t x p s l =
      least_shown_unique
      (shown (as_weight i t p l.fits l.cut) (λ y h. omega (arith, h.heavy, l.lightest h.picks h.fits h.cut))) s

  -- and one that weighs no more is such a selection
  lightest_by : (i t x : ℕ) (p : List ℕ) → LeastShown (CutWeight j cuts i t) x → Fits once j i j.budget p → total cuts p ≡ t → weighs p ≤ x
      → Lightest j cuts i t p
  lightest_by i t x p s f e l =
      record { fits = f; cut = e; lightest = λ r g d. le_trans l (shown_least s (weighs r) (as_weight i t r g d)) }

  -- of no labels
  pub chosen_none : ChosenFor j cuts 0 0 []
  chosen_none =
      only_choice last_least 0 (Lightest j cuts 0 0) []
      (lightest_by 0 0 0 [] (first_cell j cuts)
      (record { selection = record { one_each = refl; allowed = λ m h. absurd (omega arith) }; weight = omega (arith, total_none j.weights) })
      (total_none cuts) (le_of_eq (total_none j.weights)))
      (λ q l. empty_of q l.fits.selection.one_each)

  module _ (i t : ℕ) where
    abbrev w : ℕ
    w = at j.weights i

    abbrev a : ℕ
    a = at cuts i

    -- a selection of the first i + 1 labels with x of label i, without that
    record Front (q : List ℕ) (x : ℕ) : Type 0 where
      fits : Fits once j i j.budget (take i q)
      cut : total cuts q ≡ total cuts (take i q) + a * x
      weight : weighs q ≡ weighs (take i q) + w * x

    front : (q : List ℕ) (x : ℕ) → Fits once j (suc i) j.budget q → at q i ≡ x → Front q x
    front q x f e =
        let long : length q ≡ suc i = f.selection.one_each in
        let less = (front_fits once j i j.budget q f).1 in
        record {
          fits = record { selection = less.selection; weight = omega (arith, less.weight) };
          cut = total_cut cuts q i long ∙ ap (λ (z : ℕ). total cuts (take i q) + a * z) e;
          weight = total_cut j.weights q i long ∙ ap (λ (z : ℕ). weighs (take i q) + w * z) e;
        }

    -- with x of label i
    more : (p : List ℕ) (x : ℕ) → x ≤ 1 → Fits once j i j.budget p → weighs p + w * x ≤ j.budget → Fits once j (suc i) j.budget (p ++ (x ∷ []))
    unfolding MayPick
    more p x one f light = fits_more once j i j.budget p x one (omega arith) (record { selection = f.selection; weight = omega arith })

    -- the cell is as before: label i isn't picked
    pub chosen_without : (x : ℕ) (p : List ℕ) → LeastShown (CutWeight j cuts i t) x → LeastShown (CutWeight j cuts (suc i) t) x
        → ChosenFor j cuts i t p → ChosenFor j cuts (suc i) t (p ++ (0 ∷ []))
    chosen_without x p s s' chosen =
        let l = chosen.one_of in
        let long : length p ≡ i = l.fits.selection.one_each in
        let none-w : w * 0 ≡ 0 = mul-zero w in
        let none-a : a * 0 ≡ 0 = mul-zero a in
        chosen_more i 0 (Lightest j cuts i t) (Lightest j cuts (suc i) t) p long chosen
        (lightest_by (suc i) t x (p ++ (0 ∷ [])) s' (more p 0 zero-le l.fits (omega (arith, l.fits.weight)))
        (omega (arith, total_with cuts p 0 i long, l.cut))
        (omega (arith, total_with j.weights p 0 i long, lightest_weighs i t x p s l)))
        (λ q h. zero-le)
        (λ q h e.
        let f = front q 0 h.fits e in
        lightest_by i t x (take i q) s f.fits (omega (arith, f.cut, h.cut)) (omega (arith, f.weight, lightest_weighs (suc i) t x q s' h)))

    -- the cell differs: label i is picked, and the rest is the lightest for the total without it
    pub record PickedAt (x' : ℕ) : Type 0 where
      pub large : a ≤ t
      pub rest : ℕ
      pub rest_weight : rest + w ≡ x'
      pub light : x' ≤ j.budget
      pub rest_shown : LeastShown (CutWeight j cuts i (t - a)) rest
      pub rest_way : CutWeight j cuts i (t - a) rest

    -- a cell that is reached without label i is as before
    same_shown : (x x' : ℕ) → LeastShown (CutWeight j cuts i t) x → LeastShown (CutWeight j cuts (suc i) t) x' → CutWeight j cuts i t x' → x ≡ x'
    same_shown x x' s s' k =
        least_shown_unique s (shown k (λ y h. shown_least s' y (weight_without j cuts i h)))

    pub picked_at : (x x' : ℕ) → LeastShown (CutWeight j cuts i t) x → LeastShown (CutWeight j cuts (suc i) t) x' → ¬ (x ≡ x') → PickedAt x'
    picked_at x x' s (none_shown none e) differ =
        absurd (differ (least_shown_unique s (none_shown (λ y h. none y (weight_without j cuts i h)) e)))
    picked_at x x' s (shown h least) differ =
        elim (parted j cuts i t x' h) [
          | without k ↦ absurd (differ (same_shown x x' s (shown h least) k))
          | with_it t' y k e e' light ↦
              let here : t' ≡ t - a = omega arith in
              let back : t - a + a ≡ t = omega arith in
              let way : CutWeight j cuts i (t - a) y = subst (λ (z : ℕ). CutWeight j cuts i z y) here k in
              record {
                large = omega arith;
                rest = y;
                rest_weight = e';
                light = light;
                rest_shown = shown way (λ z g. elim (dec_le y z) [
                  | yes le ↦ le
                  | no gt ↦
                      let whole : CutWeight j cuts (suc i) (t - a + a) (z + w) = weight_with j cuts i g (omega arith) in
                      omega (arith, least (z + w) (rw back at whole))
                ]);
                rest_way = way;
              }
        ]

    pub chosen_with : (x x' : ℕ) (p : List ℕ) → LeastShown (CutWeight j cuts i t) x → LeastShown (CutWeight j cuts (suc i) t) x' → ¬ (x ≡ x')
        → ChosenFor j cuts i (t - a) p → ChosenFor j cuts (suc i) t (p ++ (1 ∷ []))
    chosen_with x x' p s s' differ chosen =
        let k : PickedAt x' = picked_at x x' s s' differ in
        let l = chosen.one_of in
        let long : length p ≡ i = l.fits.selection.one_each in
        let one-w : w * 1 ≡ w = mul-one w in
        let one-a : a * 1 ≡ a = mul-one a in
        let none-w : w * 0 ≡ 0 = mul-zero w in
        let none-a : a * 0 ≡ 0 = mul-zero a in
        let weight : weighs p ≡ k.rest = lightest_weighs i (t - a) k.rest p k.rest_shown l in
        chosen_more i 1 (Lightest j cuts i (t - a)) (Lightest j cuts (suc i) t) p long chosen
        (lightest_by (suc i) t x' (p ++ (1 ∷ [])) s' (more p 1 (le_refl 1) l.fits (omega (arith, k.rest_weight, k.light)))
        (omega (arith, total_with cuts p 1 i long, l.cut, k.large))
        (omega (arith, total_with j.weights p 1 i long, k.rest_weight)))
        (λ q h. elim (dec_le 1 (at q i)) [
          | yes le ↦ le
          | no gt ↦
              let f = front q 0 h.fits (omega arith) in
              let heavy : weighs (take i q) ≡ x' = omega (arith, f.weight, lightest_weighs (suc i) t x' q s' h) in
              let way : CutWeight j cuts i t (weighs (take i q)) = as_weight i t (take i q) f.fits (omega (arith, f.cut, h.cut)) in
              absurd (differ (same_shown x x' s s' (rw heavy at way)))
        ])
        (λ q h e.
        let f = front q 1 h.fits e in
        lightest_by i (t - a) k.rest (take i q) k.rest_shown f.fits
        (omega (arith, f.cut, h.cut))
        (omega (arith, f.weight, k.rest_weight, lightest_weighs (suc i) t x' q s' h)))

-- t is the greatest total that is reached: the lightest selections for it are the best over cut values
pub chosen_best : (j : Job) (cuts : List ℕ) (t : ℕ) → ((r : List ℕ) → Fits once j (labels j) j.budget r → total cuts r ≤ t)
    → (p : List ℕ) → ChosenFor j cuts (labels j) t p → Chosen last_least (labels j) (CutBest j cuts) p
chosen_best j cuts t above p chosen =
    let l = chosen.one_of in
    record {
      one_of = record {
        fits = l.fits;
        greatest = λ r f. omega (arith, above r f, l.cut);
        lightest = λ r f e. l.lightest r f (e ∙ l.cut);
      };
      settled = λ m h q best agree.
          let reached : total cuts q ≡ t = le_antisymm (above q best.fits) (rw l.cut at (best.greatest p l.fits)) in
          chosen.settled m h q (record { fits = best.fits; cut = reached; lightest = λ r f e. best.lightest r f (e ∙ sym reached) }) agree;
    }
