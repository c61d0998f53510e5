-- Kinds 1, 2 and 8: the picks are read off the table from the last label to the first, each count the least that it can be.
-- Assumes nothing.
use mathlib.Core.Path.{◌≡◌, refl, sym, ap, ◌∙◌, subst}
use Prim.Native.Nat.{ℕ, suc, ◌+◌, ◌-◌, ◌*◌, ◌≤◌, ◌<◌}
use native.Mathlib.Decide.{dec_le}
use native.Mathlib.Nat.{le_refl, le_trans, le_of_eq}
use native.Mathlib.Omega.{arith}
use mathlib.Core.List.{List, [], ◌∷◌, ◌++◌}
use lib.ListN.{length, take, get_or-append}
use lib.Seq.{get_or_at, get_or-take}
use Rattle.meaning.specs.Lists.{at, total}
use Rattle.meaning.specs.Job.{Job, Knapsack}
use Rattle.meaning.specs.Orders.{Order, last_least, Earlier, NoWorse, AgreeEarlier, Chosen}
use Rattle.meaning.specs.Knapsacks.{MayPick, Fits, Best, BestValue, order_of, BestPicks}
use Rattle.meaning.proofs.Totals.{total_cut, total_with, empty_of}
use Rattle.meaning.proofs.Steps.{fits_more, front_fits, none_better, best_none, best_by}
use Rattle.meaning.proofs.OneOfEach.{only_choice, best_value_unique}

-- ---- one count more, the least that it can be

-- of the lists with Q, the last count is x or more, and where it is x, those before it have P: then the chosen list of P, with x, is that of Q
pub chosen_more : (i x : ℕ) (P Q : List ℕ → Type 0) (p : List ℕ) → length p ≡ i → Chosen last_least i P p → Q (p ++ (x ∷ []))
    → ((q : List ℕ) → Q q → x ≤ at q i) → ((q : List ℕ) → Q q → at q i ≡ x → P (take i q)) → Chosen last_least (suc i) Q (p ++ (x ∷ []))
unfolding AgreeEarlier Earlier NoWorse
chosen_more i x P Q p long chosen has least others = record { one_of = has; settled = settled }
  where
    last : at (p ++ (x ∷ [])) i ≡ x
    last = get_or_at p x [] 0 i long

    in_p : (n : ℕ) → n < i → at (p ++ (x ∷ [])) n ≡ at p n
    in_p n h = get_or-append p (x ∷ []) 0 n (omega arith)

    settled : (m : ℕ) → m < suc i → (q : List ℕ) → Q q → AgreeEarlier last_least (suc i) m q (p ++ (x ∷ []))
        → NoWorse last_least (at (p ++ (x ∷ [])) m) (at q m)
    settled m h q has-q agree =
        elim (dec_le i m) [
          | yes ge ↦
              let here : m ≡ i = omega arith in
              subst (λ (z : ℕ). at (p ++ (x ∷ [])) z ≤ at q z) (sym here) (omega (arith, last, least q has-q))
          | no lt ↦
              let m' : m < i = omega arith in
              let in-q : (n : ℕ) → n < i → at (take i q) n ≡ at q n = λ n hn. get_or-take i q n 0 hn in
              let same : at q i ≡ x = agree i (le_refl (suc i)) m' ∙ last in
              let under : at p m ≤ at (take i q) m =
              chosen.settled m m' (take i q) (others q has-q same) (λ n hn later. in-q n hn ∙ agree n (omega arith) later ∙ in_p n hn) in
              omega (arith, in_p m m', in-q m m')
        ]

module _ (k : Knapsack) (least : order_of k ≡ last_least) (j : Job) (i c : ℕ) where
  abbrev w : ℕ
  w = at j.weights i

  abbrev v : ℕ
  v = at j.values i

  -- b is the best value of the first i + 1 labels with budget c; x of label i attain it with the best of the others, and no fewer do
  pub trace_step : (b x : ℕ) (p : List ℕ) → BestValue k j (suc i) c b
      → MayPick k (at j.copies i) x → w * x ≤ c → BestPicks k j i (c - w * x) p
      → b ≡ total j.values p + v * x
      → ((y : ℕ) → y < x → MayPick k (at j.copies i) y → w * y ≤ c → (r : ℕ) → BestValue k j i (c - w * y) r → r + v * y < b)
      → ((y : ℕ) → w * y ≤ c → (r : ℕ) × BestValue k j i (c - w * y) r)
      → BestPicks k j (suc i) c (p ++ (x ∷ []))
  unfolding BestPicks
  trace_step b x p whole may heavy t e fewer row =
      subst (λ (r : Order). Chosen r (suc i) (Best k j (suc i) c) (p ++ (x ∷ []))) (sym least)
      (chosen_more i x (Best k j i (c - w * x)) (Best k j (suc i) c) p long
      (subst (λ (r : Order). Chosen r i (Best k j i (c - w * x)) p) least t) best no_fewer others)
    where
      long : length p ≡ i
      long = t.one_of.fits.selection.one_each

      worth : total j.values (p ++ (x ∷ [])) ≡ b
      worth = total_with j.values p x i long ∙ sym e

      best : Best k j (suc i) c (p ++ (x ∷ []))
      best = record {
        fits = fits_more k j i c p x may heavy t.one_of.fits;
        greatest = λ q f. le_trans (none_better whole q f) (le_of_eq (sym worth));
      }

      -- what a best list is worth before its last count
      front_worth : (q : List ℕ) → Best k j (suc i) c q → total j.values (take i q) + v * at q i ≡ b
      front_worth q bq =
          omega (
            arith,
            total_cut j.values q i bq.fits.selection.one_each,
            worth,
            best.greatest q bq.fits,
            bq.greatest (p ++ (x ∷ [])) best.fits,
          )

      no_fewer : (q : List ℕ) → Best k j (suc i) c q → x ≤ at q i
      no_fewer q bq =
          let (light, f) = front_fits k j i c q bq.fits in
          let (r, br) = row (at q i) light in
          elim (dec_le x (at q i)) [
            | yes le ↦ le
            | no gt ↦
                let most = fewer (at q i) (omega arith) (bq.fits.selection.allowed i (le_refl (suc i))) light r br in
                absurd (omega (arith, none_better br (take i q) f, front_worth q bq))
          ]

      others : (q : List ℕ) → Best k j (suc i) c q → at q i ≡ x → Best k j i (c - w * x) (take i q)
      others q bq same =
          let equal : total j.values (take i q) ≡ total j.values p = omega (arith, front_worth q bq, ap (λ (z : ℕ). v * z) same) in
          record {
            fits = subst (λ (z : ℕ). Fits k j i (c - w * z) (take i q)) same (front_fits k j i c q bq.fits).1;
            greatest = λ r g. le_trans (t.one_of.greatest r g) (le_of_eq (sym equal));
          }

-- of no labels, the picks are none
pub picks_none : (k : Knapsack) (j : Job) (c : ℕ) → BestPicks k j 0 c []
unfolding BestPicks
picks_none k j c =
    only_choice (order_of k) 0 (Best k j 0 c) []
    (subst (λ (p : List ℕ). Best k j 0 c p)
    (empty_of (best_none k j c).picks (best_none k j c).best.fits.selection.one_each) (best_none k j c).best)
    (λ q b. empty_of q b.fits.selection.one_each)

-- the chosen picks are worth the best value
pub picks_worth : (k : Knapsack) (j : Job) (i c : ℕ) (p : List ℕ) {v : ℕ} → BestPicks k j i c p → BestValue k j i c v → v ≡ total j.values p
unfolding BestPicks
picks_worth k j i c p chosen best = best_value_unique best (best_by p chosen.one_of.fits refl chosen.one_of.greatest)
