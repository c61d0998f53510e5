-- The step from the first i labels to the first i + 1, once over the allowed counts: what the tables of kinds 1 and 2 and the certificates rest on.
-- Assumes nothing.
use mathlib.Core.Path.{◌≡◌, refl, sym, ap, ◌∙◌}
use Prim.Native.Nat.{ℕ, suc, ◌+◌, ◌-◌, ◌*◌, ◌≤◌, ◌<◌}
use native.Mathlib.Decide.{dec_le}
use native.Mathlib.Nat.{le_refl, le_trans, le_of_eq, not-suc-le-zero}
use native.Mathlib.Omega.{arith}
use mathlib.Core.List.{List, [], ◌∷◌, ◌++◌}
use lib.ListN.{length, take, length-append, get_or-append}
use lib.Seq.{get_or_at, get_or-take}
use Rattle.meaning.specs.Lists.{at, total}
use Rattle.meaning.specs.Job.{Job, Knapsack}
use Rattle.meaning.specs.Knapsacks.{MayPick, Fits, BestValue}
use Rattle.meaning.proofs.Totals.{empty_of, total_none, cut_last, front_long, total_cut, total_with}

-- a value that a fitting selection has, and none passes, is the best
pub best_by : {k : Knapsack} {j : Job} {i c b : ℕ} (p : List ℕ) → Fits k j i c p → total j.values p ≡ b
    → ((q : List ℕ) → Fits k j i c q → total j.values q ≤ b) → BestValue k j i c b
best_by p f e above = record { picks = p; best = record { fits = f; greatest = λ q g. le_trans (above q g) (le_of_eq (sym e)) }; value = sym e }

-- no fitting selection is worth more than the best value
pub none_better : {k : Knapsack} {j : Job} {i c b : ℕ} → BestValue k j i c b → (q : List ℕ) → Fits k j i c q → total j.values q ≤ b
none_better r q f = le_trans (r.best.greatest q f) (le_of_eq (sym r.value))

module _ (k : Knapsack) (j : Job) (i c : ℕ) where
  abbrev w : ℕ
  w = at j.weights i

  abbrev v : ℕ
  v = at j.values i

  -- a fitting selection of the first i labels in what x of label i leave, with these x
  pub fits_more : (p : List ℕ) (x : ℕ) → MayPick k (at j.copies i) x → w * x ≤ c → Fits k j i (c - w * x) p → Fits k j (suc i) c (p ++ (x ∷ []))
  fits_more p x may heavy f =
      let long : length p ≡ i = f.selection.one_each in
      record {
        selection = record {
          one_each = length-append p (x ∷ []) ∙ omega arith;
          allowed = λ m h.
              elim (dec_le i m) [
                | yes ge ↦ let here : m ≡ i = omega arith in rw (here, get_or_at p x [] 0 i long) may
                | no lt ↦ let h' : m < length p = omega arith in rw (get_or-append p (x ∷ []) 0 m h') (f.selection.allowed m (omega arith))
              ];
        };
        weight = omega (arith, f.weight, total_with j.weights p x i long);
      }

  -- a fitting selection of the first i + 1 labels, without those of label i
  pub front_fits : (q : List ℕ) → Fits k j (suc i) c q → (w * at q i ≤ c) × Fits k j i (c - w * at q i) (take i q)
  front_fits q f =
      let long : length q ≡ suc i = f.selection.one_each in
      let weight : total j.weights q ≡ total j.weights (take i q) + w * at q i = total_cut j.weights q i long in (
        omega (arith, f.weight),
        record {
          selection = record { one_each = front_long q i long; allowed = λ m h. rw (get_or-take i q m 0 h) (f.selection.allowed m (omega arith)) };
          weight = omega (arith, f.weight);
        },
      )

  -- so every one of them is one of those
  pub fits_less : (q : List ℕ) → Fits k j (suc i) c q
      → (p : List ℕ) × (x : ℕ) × (q ≡ p ++ (x ∷ [])) × MayPick k (at j.copies i) x × (w * x ≤ c) × Fits k j i (c - w * x) p
  fits_less q f =
      let (heavy, front) = front_fits q f in
      (take i q, at q i, cut_last q i f.selection.one_each, f.selection.allowed i (le_refl (suc i)), heavy, front)

  -- the rule of the table: with the best values of the first i labels in `row`, the best value of the first i + 1 is the greatest of
  -- row (c - w x) + v x over the allowed x that fit
  pub best_step : (row : ℕ → ℕ) → ((c' : ℕ) → c' ≤ c → BestValue k j i c' (row c')) → (b : ℕ)
      → ((x : ℕ) → MayPick k (at j.copies i) x → w * x ≤ c → row (c - w * x) + v * x ≤ b)
      → (x : ℕ) → MayPick k (at j.copies i) x → w * x ≤ c → b ≡ row (c - w * x) + v * x
      → BestValue k j (suc i) c b
  best_step row rows b above x may heavy e =
      let r : BestValue k j i (c - w * x) (row (c - w * x)) = rows (c - w * x) (omega arith) in
      best_by (r.picks ++ (x ∷ [])) (fits_more r.picks x may heavy r.best.fits)
      (total_with j.values r.picks x i r.best.fits.selection.one_each ∙ omega (arith, r.value))
      (λ q f.
      let (p, y, whole, may', heavy', f') = fits_less q f in
      let worth : total j.values q ≡ total j.values p + v * y =
      ap (total j.values) whole ∙ total_with j.values p y i f'.selection.one_each in
      omega (arith, above y may' heavy', none_better (rows (c - w * y) (omega arith)) p f'))

-- of no labels the best value is 0
pub best_none : (k : Knapsack) (j : Job) (c : ℕ) → BestValue k j 0 c 0
best_none k j c =
    best_by []
    (record { selection = record { one_each = refl; allowed = λ m h. absurd (not-suc-le-zero h) }; weight = omega (arith, total_none j.weights) })
    (total_none j.values)
    (λ q f. le_of_eq (ap (total j.values) (empty_of q f.selection.one_each) ∙ total_none j.values))
