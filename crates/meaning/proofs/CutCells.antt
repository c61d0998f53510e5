-- Kind 9: the cells of the first i + 1 labels from those of the first i.
-- Assumes nothing.
use mathlib.Core.Path.{◌≡◌, refl, sym, ap, ◌∙◌, subst}
use Prim.Native.Nat.{ℕ, suc, ◌+◌, ◌-◌, ◌*◌, ◌≤◌, ◌<◌, min, zero-le}
use native.Mathlib.Nat.{mul-zero, mul-one, le_refl, not-suc-le-zero}
use native.Mathlib.Decide.{dec_le}
use native.Mathlib.Omega.{arith}
use mathlib.Core.List.{List, [], ◌∷◌, ◌++◌}
use lib.ListN.{length}
use Rattle.meaning.specs.Lists.{at, total}
use Rattle.meaning.specs.Job.{Job, once}
use Rattle.meaning.specs.Cells.{LeastShown, shown, none_shown, no_way}
use Rattle.meaning.specs.Bounds.{most_budget}
use Rattle.meaning.specs.Knapsacks.{Fits, MayPick}
use Rattle.meaning.proofs.Totals.{empty_of, total_none, total_with}
use Rattle.meaning.proofs.Steps.{fits_more, fits_less}
use Rattle.meaning.specs.Stated.{CutWeight}

module _ (j : Job) (cuts : List ℕ) where
  -- ---- of no labels

  pub none_of_none : (t x : ℕ) → CutWeight j cuts 0 t x → (t ≡ 0) × (x ≡ 0)
  none_of_none t x h =
      let empty : h.picks ≡ [] = empty_of h.picks h.fits.selection.one_each in (
        sym h.cut ∙ ap (total cuts) empty ∙ total_none cuts,
        sym h.heavy ∙ ap (total j.weights) empty ∙ total_none j.weights,
      )

  pub first_cell : LeastShown (CutWeight j cuts 0 0) 0
  first_cell = shown
      (record {
        picks = [];
        fits = record {
          selection = record { one_each = refl; allowed = λ m h. absurd (not-suc-le-zero h) };
          weight = omega (arith, total_none j.weights);
        };
        cut = total_none cuts;
        heavy = total_none j.weights;
      })
      (λ x h. zero-le)

  pub first_others : (t : ℕ) → 0 < t → LeastShown (CutWeight j cuts 0 t) no_way
  first_others t pos = none_shown (λ x h. omega (arith, (none_of_none t x h).0)) refl

  -- ---- one label more

  module _ (i : ℕ) where
    abbrev w : ℕ
    w = at j.weights i

    abbrev a : ℕ
    a = at cuts i

    -- x of label i with a selection of the first i
    pub weight_more : (t y x : ℕ) → x ≤ 1 → CutWeight j cuts i t y → y + w * x ≤ j.budget → CutWeight j cuts (suc i) (t + a * x) (y + w * x)
    unfolding MayPick
    weight_more t y x one h light =
        let long : length h.picks ≡ i = h.fits.selection.one_each in
        record {
          picks = h.picks ++ (x ∷ []);
          fits =
              fits_more once j i j.budget h.picks x one (omega arith)
              (record { selection = h.fits.selection; weight = omega (arith, h.heavy) });
          cut = omega (arith, total_with cuts h.picks x i long, h.cut);
          heavy = omega (arith, total_with j.weights h.picks x i long, h.heavy);
        }

    pub weight_without : {t y : ℕ} → CutWeight j cuts i t y → CutWeight j cuts (suc i) t y
    weight_without {t} {y} h =
        let none-w : w * 0 ≡ 0 = mul-zero w in
        let none-a : a * 0 ≡ 0 = mul-zero a in
        let light : y ≤ j.budget = omega (arith, h.heavy, h.fits.weight) in
        let m : CutWeight j cuts (suc i) (t + a * 0) (y + w * 0) = weight_more t y 0 zero-le h (omega arith) in
        let e : t + a * 0 ≡ t = omega arith in
        let e' : y + w * 0 ≡ y = omega arith in
        subst (λ (z : ℕ). CutWeight j cuts (suc i) z y) e (subst (λ (z : ℕ). CutWeight j cuts (suc i) (t + a * 0) z) e' m)

    pub weight_with : {t y : ℕ} → CutWeight j cuts i t y → y + w ≤ j.budget → CutWeight j cuts (suc i) (t + a) (y + w)
    weight_with {t} {y} h light =
        let one-w : w * 1 ≡ w = mul-one w in
        let one-a : a * 1 ≡ a = mul-one a in
        let m : CutWeight j cuts (suc i) (t + a * 1) (y + w * 1) = weight_more t y 1 (le_refl 1) h (omega arith) in
        let e : t + a * 1 ≡ t + a = omega arith in
        let e' : y + w * 1 ≡ y + w = omega arith in
        subst (λ (z : ℕ). CutWeight j cuts (suc i) z (y + w)) e (subst (λ (z : ℕ). CutWeight j cuts (suc i) (t + a * 1) z) e' m)

    -- a selection of the first i + 1 labels is one of the first i, without label i or with it
    pub data Parted (t y : ℕ) : Type 0 where
      without : CutWeight j cuts i t y → Parted t y
      with_it : (t' y' : ℕ) → CutWeight j cuts i t' y' → t' + a ≡ t → y' + w ≡ y → y ≤ j.budget → Parted t y

    pub parted : (t y : ℕ) → CutWeight j cuts (suc i) t y → Parted t y
    unfolding MayPick
    parted t y h =
        let (p, x, whole, one, heavy, f) = fits_less once j i j.budget h.picks h.fits in
        go p x whole one heavy f
      where
        go : (p : List ℕ) (x : ℕ) → h.picks ≡ p ++ (x ∷ []) → x ≤ 1 → w * x ≤ j.budget → Fits once j i (j.budget - w * x) p → Parted t y
        go p x whole one heavy f =
            let long : length p ≡ i = f.selection.one_each in
            let in_cut : t ≡ total cuts p + a * x = sym h.cut ∙ ap (total cuts) whole ∙ total_with cuts p x i long in
            let in-weight : y ≡ total j.weights p + w * x = sym h.heavy ∙ ap (total j.weights) whole ∙ total_with j.weights p x i long in
            let light : y ≤ j.budget = omega (arith, h.heavy, h.fits.weight) in
            let fits : Fits once j i j.budget p = record { selection = f.selection; weight = omega arith } in
            elim (dec_le 1 x) [
              | yes ge ↦
                  let e : x ≡ 1 = omega arith in
                  with_it (total cuts p) (total j.weights p) (record { picks = p; fits = fits; cut = refl; heavy = refl })
                  (omega (arith, mul-one a, ap (λ (z : ℕ). a * z) e))
                  (omega (arith, mul-one w, ap (λ (z : ℕ). w * z) e))
                  light
              | no lt ↦
                  let e : x ≡ 0 = omega arith in
                  without (record {
                    picks = p;
                    fits = fits;
                    cut = omega (arith, mul-zero a, ap (λ (z : ℕ). a * z) e);
                    heavy = omega (arith, mul-zero w, ap (λ (z : ℕ). w * z) e);
                  })
            ]

    module _ (t : ℕ) where
      -- where label i is of no use, the cell stays
      pub cell_stays : (x : ℕ) → LeastShown (CutWeight j cuts i t) x
          → ((t' y' : ℕ) → CutWeight j cuts i t' y' → t' + a ≡ t → y' + w ≤ j.budget → ⊥)
          → LeastShown (CutWeight j cuts (suc i) t) x
      cell_stays x (shown h least) useless =
          shown (weight_without h) (λ y g. elim (parted t y g) [
            | without g' ↦ least y g'
            | with_it t' y' g' e e' light ↦ absurd (useless t' y' g' e (omega arith))
          ])
      cell_stays x (none_shown none e) useless =
          none_shown (λ y g. elim (parted t y g) [
            | without g' ↦ none y g'
            | with_it t' y' g' e e' light ↦ useless t' y' g' e (omega arith)
          ]) e

      -- a label that is left aside
      pub cell_aside : (x : ℕ) → j.budget < w → LeastShown (CutWeight j cuts i t) x → LeastShown (CutWeight j cuts (suc i) t) x
      cell_aside x heavy s = cell_stays x s (λ t' y' g e light. omega arith)

      -- a total below the cut value of label i
      pub cell_short : (x : ℕ) → t < a → LeastShown (CutWeight j cuts i t) x → LeastShown (CutWeight j cuts (suc i) t) x
      cell_short x small s = cell_stays x s (λ t' y' g e light. omega arith)

      module _ (large : a ≤ t) (bounded : j.budget ≤ most_budget) where
        -- what is shown for t - a is no more than any selection there weighs
        below : (g : ℕ) → LeastShown (CutWeight j cuts i (t - a)) g → (t' y' : ℕ) → CutWeight j cuts i t' y' → t' + a ≡ t → g ≤ y'
        below g s t' y' h e =
            let e' : t' ≡ t - a = omega arith in
            let h' : CutWeight j cuts i (t - a) y' = subst (λ (z : ℕ). CutWeight j cuts i z y') e' h in
            elim s [ shown k least ↦ least y' h' | none_shown none e'' ↦ absurd (none y' h') ]

        -- a cell within the budget is shown
        within : (g : ℕ) → g ≤ j.budget → LeastShown (CutWeight j cuts i (t - a)) g → CutWeight j cuts i (t - a) g
        unfolding no_way most_budget
        within g light (shown h least) = h
        within g light (none_shown none e) = absurd (omega arith)

        -- the lesser of the cell and of the one for t - a with label i, where that is within the budget
        pub cell_lesser : (x g : ℕ) → LeastShown (CutWeight j cuts i t) x → LeastShown (CutWeight j cuts i (t - a)) g → g + w ≤ j.budget
            → LeastShown (CutWeight j cuts (suc i) t) (min x (g + w))
        unfolding no_way most_budget
        cell_lesser x g s s' light =
            let e : t - a + a ≡ t = omega arith in
            let made : CutWeight j cuts (suc i) t (g + w) =
            subst (λ (z : ℕ). CutWeight j cuts (suc i) z (g + w)) e (weight_with (within g (omega arith) s') light) in
            elim s [
              | shown h least ↦
                  shown
                  (elim (dec_le x (g + w)) [
                    | yes le ↦ subst (λ (z : ℕ). CutWeight j cuts (suc i) t z) (let q : x ≡ min x (g + w) = omega arith in q) (weight_without h)
                    | no gt ↦ subst (λ (z : ℕ). CutWeight j cuts (suc i) t z) (let q : g + w ≡ min x (g + w) = omega arith in q) made
                  ])
                  (λ y k. elim (parted t y k) [
                    | without k' ↦ omega (arith, least y k')
                    | with_it t' y' k' d d' light' ↦ omega (arith, below g s' t' y' k' d)
                  ])
              | none_shown none d ↦
                  shown
                  (subst (λ (z : ℕ). CutWeight j cuts (suc i) t z) (let q : g + w ≡ min x (g + w) = omega arith in q) made)
                  (λ y k. elim (parted t y k) [
                    | without k' ↦ absurd (none y k')
                    | with_it t' y' k' d d' light' ↦ omega (arith, below g s' t' y' k' d)
                  ])
            ]

        -- past the budget with label i, the cell stays
        pub cell_past : (x g : ℕ) → LeastShown (CutWeight j cuts i t) x → LeastShown (CutWeight j cuts i (t - a)) g → j.budget < g + w
            → LeastShown (CutWeight j cuts (suc i) t) x
        cell_past x g s s' past = cell_stays x s (λ t' y' k e light. omega (arith, below g s' t' y' k e))
