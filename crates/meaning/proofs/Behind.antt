-- Kind 8: the number of first labels that reach a total, with one label more and with none; and the picks, with one label more.
-- Assumes nothing.
use mathlib.Core.Path.{◌≡◌, refl, subst}
use mathlib.Core.Logic.{◌⊎◌, inl, inr}
use Prim.Native.Nat.{ℕ, zero, suc, ◌+◌, ◌-◌, ◌*◌, ◌≤◌, ◌<◌, zero-le}
use native.Mathlib.Nat.{le_refl, mul-zero, mul-one}
use native.Mathlib.Decide.{dec_le}
use native.Mathlib.Omega.{arith}
use mathlib.Core.List.{List, [], ◌∷◌, ◌++◌, append_assoc, append-nil}
use lib.ListN.{take, replicate}
use Rattle.meaning.specs.Lists.{at}
use Rattle.meaning.specs.Cells.{LeastShown, no_way, shown, none_shown}
use Rattle.meaning.specs.Job.{Job}
use Rattle.meaning.specs.Sums.{Weighs, Reached}
use Rattle.meaning.specs.Behind.{ReachedBy, Behind, total_order}
use Rattle.meaning.proofs.Totals.{empty_of}
use Rattle.meaning.proofs.OneOfEach.{only_choice}
use Rattle.meaning.proofs.Trace.{chosen_more}
use Rattle.meaning.proofs.Reaching.{weighs_more, weighs_less, reached_with, reached_either, reached_more, total_0, no_labels}

-- ---- the cells

-- of no labels, 0 of them reach total 0
pub first_none : (j : Job) → LeastShown (ReachedBy j 0 0) 0
first_none j = shown (record { among = zero-le; reached = total_0 j 0 }) (λ x d. zero-le)

-- and no other is reached
pub first_no_labels : (j : Job) (t : ℕ) → 0 < t → LeastShown (ReachedBy j 0 t) no_way
first_no_labels j t pos =
    none_shown
    (λ x d. omega (arith, no_labels j t (subst (λ (n : ℕ). Reached j n t) (omega (arith, d.among)) d.reached)))
    refl

module _ (j : Job) (i t : ℕ) where
  abbrev w : ℕ
  w = at j.weights i

  -- with one label more: as many as without it, or all of them
  by_either : (z : ℕ) → ReachedBy j (suc i) t z → ReachedBy j i t z ⊎ ((z ≡ suc i) × Reached j (suc i) t)
  by_either z d =
      elim (dec_le z i) [
        | yes before ↦ inl (record { among = before; reached = d.reached })
        | no last ↦ let all : z ≡ suc i = omega (arith, d.among) in inr (all, subst (λ (n : ℕ). Reached j n t) all d.reached)
      ]

  -- a total that was reached keeps its number
  pub first_kept : (x : ℕ) → ReachedBy j i t x → ((y : ℕ) → ReachedBy j i t y → x ≤ y) → LeastShown (ReachedBy j (suc i) t) x
  first_kept x d least =
      shown (record { among = omega (arith, d.among); reached = d.reached })
      (λ z e. elim (by_either z e) [ inl k ↦ least z k | inr (all, r) ↦ omega (arith, d.among) ])

  module _ (none : (x : ℕ) → ¬ ReachedBy j i t x) where
    -- one that is reached now takes all labels
    pub first_new : Reached j (suc i) t → LeastShown (ReachedBy j (suc i) t) (suc i)
    first_new r =
        shown (record { among = le_refl (suc i); reached = r })
        (λ z e. elim (by_either z e) [ inl k ↦ absurd (none z k) | inr (all, r') ↦ omega arith ])

    -- and one that still isn't shows that there is no way
    pub first_still : ¬ Reached j (suc i) t → LeastShown (ReachedBy j (suc i) t) no_way
    first_still unreached = none_shown (λ z e. elim (by_either z e) [ inl k ↦ none z k | inr (all, r) ↦ unreached r ]) refl

    -- not without the label
    without : ¬ Reached j i t
    without r = none i (record { among = le_refl i; reached = r })

    -- so a label that is too heavy, or leaves what isn't reached, adds nothing
    pub too_heavy : t < w → ¬ Reached j (suc i) t
    too_heavy heavy r = elim (reached_either j i t r) [ inl old ↦ without old | inr (light, rest) ↦ omega arith ]

    pub rest_unreached : ((x : ℕ) → ¬ ReachedBy j i (t - w) x) → ¬ Reached j (suc i) t
    rest_unreached no_rest r =
        elim (reached_either j i t r) [ inl old ↦ without old | inr (light, rest) ↦ no_rest i (record { among = le_refl i; reached = rest }) ]

  -- and one that leaves what is reached reaches the total
  pub rest_reached : (x : ℕ) → w ≤ t → ReachedBy j i (t - w) x → Reached j (suc i) t
  rest_reached x light d =
      subst (Reached j (suc i)) (omega arith) (reached_with j i (t - w) (reached_more j x i (t - w) d.among d.reached))

-- ---- what a cell above total 0 says of the label that it shows

-- label m, counted from 0, is the last of the labels that reach t: it isn't too heavy, and those before it reach what it leaves, and don't reach t
pub record ReachesFirst (j : Job) (n t m : ℕ) : Type 0 where
  pub inside : m < n
  pub light : at j.weights m ≤ t
  pub rest : Reached j m (t - at j.weights m)
  pub not_before : ¬ Reached j m t

pub reaches_first : (j : Job) (n t x : ℕ) → 0 < t → ReachedBy j n t x → ((y : ℕ) → ReachedBy j n t y → x ≤ y) → (0 < x) × ReachesFirst j n t (x - 1)
reaches_first j n t zero pos d least = absurd (omega (arith, no_labels j t d.reached))
reaches_first j n t (suc m) pos d least =
    let not_before : ¬ Reached j m t = λ r. omega (arith, least m (record { among = omega (arith, d.among); reached = r })) in
    elim (reached_either j m t d.reached) [
      | inl old ↦ absurd (not_before old)
      | inr (light, rest) ↦
          let same : m ≡ suc m - 1 = omega arith in (
            omega arith,
            subst (ReachesFirst j n t) same (record { inside = omega (arith, d.among); light = light; rest = rest; not_before = not_before }),
          )
    ]

-- ---- the picks

-- of no labels they are none
pub behind_none : (j : Job) → Behind j 0 0 []
unfolding Behind
behind_none j =
    let p = total_0 j 0 in
    only_choice total_order 0 (Weighs j 0 0) []
    (subst (Weighs j 0 0) (empty_of p.picks p.weighs.selection.one_each) p.weighs)
    (λ q d. empty_of q d.selection.one_each)

module _ (j : Job) (i t : ℕ) (p : List ℕ) where
  abbrev w' : ℕ
  w' = at j.weights i

  -- a label more: it isn't needed
  pub behind_without : Behind j i t p → Behind j (suc i) t (p ++ (0 ∷ []))
  unfolding Behind total_order
  behind_without b =
      let none : w' * 0 ≡ 0 = mul-zero w' in
      chosen_more i 0 (Weighs j i t) (Weighs j (suc i) t) p b.one_of.selection.one_each b
      (subst (λ (u : ℕ). Weighs j (suc i) u (p ++ (0 ∷ []))) (omega arith) (weighs_more j i t 0 p zero-le b.one_of))
      (λ q d. zero-le)
      (λ q d e. subst (λ (u : ℕ). Weighs j i u (take i q)) (omega arith) (weighs_less j i t 0 q e d).1)

  -- it is, since the total isn't reached without it
  pub behind_with : w' ≤ t → ¬ Reached j i t → Behind j i (t - w') p → Behind j (suc i) t (p ++ (1 ∷ []))
  unfolding Behind total_order
  behind_with light unreached b =
      let one : w' * 1 ≡ w' = mul-one w' in
      let none : w' * 0 ≡ 0 = mul-zero w' in
      chosen_more i 1 (Weighs j i (t - w')) (Weighs j (suc i) t) p b.one_of.selection.one_each b
      (subst (λ (u : ℕ). Weighs j (suc i) u (p ++ (1 ∷ []))) (omega arith) (weighs_more j i (t - w') 1 p (le_refl 1) b.one_of))
      (λ q d.
      elim (dec_le 1 (at q i)) [
        | yes Some-of ↦ Some-of
        | no none_of ↦ absurd (unreached (subst (Reached j i) (omega arith)
            (record { picks = take i q; weighs = (weighs_less j i t 0 q (omega arith) d).1 })))
      ])
      (λ q d e. subst (λ (u : ℕ). Weighs j i u (take i q)) (omega arith) (weighs_less j i t 1 q e d).1)

-- labels more, none of which is needed
pub behind_zeros : (j : Job) (i t : ℕ) (p : List ℕ) (more : ℕ) → Behind j i t p → Behind j (i + more) t (p ++ replicate more 0)
behind_zeros j i t p zero b = let all : i ≡ i + 0 = omega arith in rw (append-nil p, ← all) b
behind_zeros j i t p (suc more) b =
    let next : suc i + more ≡ i + suc more = omega arith in
    rw (← next, ← append_assoc p (0 ∷ []) (replicate more 0)) (behind_zeros j (suc i) t (p ++ (0 ∷ [])) more (behind_without j i t p b))
