-- Kinds 5 and 6: lists of blocks with one block more or fewer; the fewest blocks and the ways with one size more, and with no sizes.
-- Assumes nothing.
use mathlib.Core.Path.{◌≡◌, refl, sym, ap, ◌∙◌, subst}
use mathlib.Core.Logic.{◌⊎◌, inl, inr}
use Prim.Native.Nat.{ℕ, zero, suc, ◌+◌, ◌-◌, ◌*◌, ◌≤◌, ◌<◌, min, zero-le}
use native.Mathlib.Decide.{dec_le, dec_lt}
use native.Mathlib.Nat.{le_refl, mul-le-mul_right, mul-zero, one-mul}
use native.Mathlib.Omega.{arith}
use mathlib.Core.List.Memᴰ
use mathlib.Core.List.{List, [], ◌∷◌, ◌++◌, append_cancel_right}
use lib.ListN.{length, length-append, take}
use lib.Seq.{get_or_at}
use Rattle.meaning.specs.Lists.{at, sum, total}
use Rattle.meaning.specs.Counting.{Distinct}
use Rattle.meaning.specs.Job.{Job, labels}
use Rattle.meaning.specs.Cells.{LeastShown, no_way, none_shown, shown}
use Rattle.meaning.specs.Blocks.{MadeOf, Makes, WaysFor}
use Rattle.meaning.proofs.Totals.{at_more, cut_last, empty_of, fewer_more, fewer_total, front_long, length_fewer, length_more}
use Rattle.meaning.proofs.Totals.{more_fewer, more_sum, more_total, one_fewer, one_more, total_cut, total_none, total_with}
use Rattle.meaning.proofs.Loops.{sum_snoc}
use Rattle.meaning.proofs.Counting.{counted_either, counted_iff, counted_through}

-- ---- one block more, one block fewer

-- counts sum to no more than they come to with sizes that are 1 or more
each_counts : (ws p : List ℕ) → ((m : ℕ) → m < length p → 1 ≤ at ws m) → length p ≤ length ws → sum p ≤ total ws p
unfolding sum total
each_counts ws [] pos h = zero-le
each_counts [] (x ∷ p) pos h = absurd (omega arith)
each_counts (w ∷ ws) (x ∷ p) pos h =
    omega (arith, mul-le-mul_right x (pos 0 (omega arith)), one-mul x, each_counts ws p (λ m l. pos (suc m) (omega arith)) (omega arith))

module _ (j : Job) (a : ℕ) where
  -- with one more of size m
  pub makes_more : {n : ℕ} (p : List ℕ) (m : ℕ) → m < n → at j.weights m ≤ a → Makes j n (a - at j.weights m) p → Makes j n a (one_more p m)
  makes_more p m h heavy k = record {
    one_each = length_more p m ∙ k.one_each;
    sums_to = more_total j.weights p m (omega (arith, k.one_each)) ∙ omega (arith, k.sums_to);
  }

  -- without one of its blocks of size m a list makes what is left
  pub makes_less : {n : ℕ} (q : List ℕ) (m : ℕ) → m < n → 0 < at q m → Makes j n a q
      → (at j.weights m ≤ a) × Makes j n (a - at j.weights m) (one_fewer q m)
  makes_less q m h pos k =
      let less : total j.weights (one_fewer q m) + at j.weights m ≡ total j.weights q =
      fewer_total j.weights q m (omega (arith, k.one_each)) pos in
      (omega (arith, k.sums_to), record { one_each = length_fewer q m ∙ k.one_each; sums_to = omega (arith, k.sums_to) })

-- ---- with one size more, the lists without it and the lists with one more of it

none_of : List ℕ → List ℕ
none_of p = p ++ (0 ∷ [])

module _ (j : Job) (i : ℕ) where
  abbrev w : ℕ
  w = at j.weights i

  -- the lists for a that have none of the last size
  abbrev Without : ℕ → List ℕ → Type 0
  Without a q = (p : List ℕ) × Makes j i a p × (q ≡ none_of p)

  one_without : (a : ℕ) (p q : List ℕ) → Makes j i a p → Makes j i a q → none_of p ≡ none_of q → p ≡ q
  unfolding none_of
  one_without a p q m m' e = append_cancel_right p q (0 ∷ []) e

  without_makes : (a : ℕ) (q : List ℕ) → Without a q → Makes j (suc i) a q
  unfolding none_of
  without_makes a q (p, m, e) = record {
    one_each = ap length e ∙ length-append p (0 ∷ []) ∙ omega (arith, m.one_each);
    sums_to = ap (total j.weights) e ∙ total_with j.weights p 0 i m.one_each ∙ omega (arith, mul-zero w, m.sums_to);
  }

  makes_without : (a : ℕ) (q : List ℕ) → Makes j (suc i) a q → at q i ≡ 0 → Without a q
  unfolding none_of
  makes_without a q m e = (
    take i q,
    record {
      one_each = front_long q i m.one_each;
      sums_to = omega (arith, total_cut j.weights q i m.one_each, m.sums_to, mul-zero w, ap (λ (x : ℕ). w * x) e);
    },
    cut_last q i m.one_each ∙ ap (λ (x : ℕ). take i q ++ (x ∷ [])) e,
  )

  -- a size above a is in none of them
  none_fits : (a : ℕ) → a < w → (q : List ℕ) → Makes j (suc i) a q → at q i ≡ 0
  none_fits a heavy q m =
      elim (dec_lt 0 (at q i)) [ yes pos ↦ absurd (omega (arith, (makes_less j a q i (le_refl (suc i)) pos m).0)) | no z ↦ omega arith ]

  -- so it adds no way
  pub ways_skip : (a n : ℕ) → a < w → WaysFor j i a n → WaysFor j (suc i) a n
  unfolding WaysFor
  ways_skip a n heavy c =
      counted_iff (counted_through none_of (one_without a) c) (without_makes a) (λ q m. makes_without a q m (none_fits a heavy q m))

  -- the same number of blocks, with none of the last size
  made_without : (a x : ℕ) → MadeOf j i a x → MadeOf j (suc i) a x
  unfolding none_of
  made_without a x d =
      record {
        picks = none_of d.picks;
        makes = without_makes a (none_of d.picks) (d.picks, d.makes, refl);
        blocks = sum_snoc d.picks 0 ∙ omega (arith, d.blocks);
      }

  without_made : (a x : ℕ) (q : List ℕ) → Without a q → sum q ≡ x → MadeOf j i a x
  unfolding none_of
  without_made a x q (p, m, e) blocks = record { picks = p; makes = m; blocks = omega (arith, sum_snoc p 0, ap sum e) }

  -- and no fewer blocks
  pub fewest_skip : (a x : ℕ) → a < w → LeastShown (MadeOf j i a) x → LeastShown (MadeOf j (suc i) a) x
  fewest_skip a x heavy (shown d least) =
      shown (made_without a x d)
      (λ z e. least z (without_made a z e.picks (makes_without a e.picks e.makes (none_fits a heavy e.picks e.makes)) e.blocks))
  fewest_skip a x heavy (none_shown none e) =
      none_shown
      (λ z d. none z (without_made a z d.picks (makes_without a d.picks d.makes (none_fits a heavy d.picks d.makes)) d.blocks))
      e

  module _ (a : ℕ) (fits : w ≤ a) where
    -- the lists for a that have one more of the last size than a list for what it leaves
    abbrev With : List ℕ → Type 0
    With q = (p : List ℕ) × Makes j (suc i) (a - w) p × (q ≡ one_more p i)

    apart : (q : List ℕ) → Without a q → With q → ⊥
    unfolding none_of
    apart q (p, m, e) (p', m', e') =
        let zero-last : at q i ≡ 0 = ap (λ (l : List ℕ). at l i) e ∙ get_or_at p 0 [] 0 i m.one_each in
        let more-last : at q i ≡ suc (at p' i) = ap (λ (l : List ℕ). at l i) e' ∙ at_more p' i (omega (arith, m'.one_each)) in
        omega arith

    one_with : (p q : List ℕ) → Makes j (suc i) (a - w) p → Makes j (suc i) (a - w) q → one_more p i ≡ one_more q i → p ≡ q
    one_with p q m m' e =
        sym (fewer_more p i (omega (arith, m.one_each))) ∙ ap (λ (l : List ℕ). one_fewer l i) e ∙ fewer_more q i (omega (arith, m'.one_each))

    either_makes : (q : List ℕ) → Without a q ⊎ With q → Makes j (suc i) a q
    either_makes q (inl h) = without_makes a q h
    either_makes q (inr (p, m, e)) = subst (λ (l : List ℕ). Makes j (suc i) a l) (sym e) (makes_more j a p i (le_refl (suc i)) fits m)

    makes_either : (q : List ℕ) → Makes j (suc i) a q → Without a q ⊎ With q
    makes_either q m =
        elim (dec_lt 0 (at q i)) [
          | yes pos ↦ inr (one_fewer q i, (makes_less j a q i (le_refl (suc i)) pos m).1, sym (more_fewer q i (omega (arith, m.one_each)) pos))
          | no z ↦ inl (makes_without a q m (omega arith))
        ]

    -- ways for a with one size more: those with the sizes before, and those for a less the size
    pub ways_more : (n m : ℕ) → WaysFor j i a n → WaysFor j (suc i) (a - w) m → WaysFor j (suc i) a (n + m)
    unfolding WaysFor
    ways_more n m c d =
        counted_iff
        (counted_either apart (counted_through none_of (one_without a) c) (counted_through (λ (p : List ℕ). one_more p i) one_with d))
        either_makes makes_either

    -- a block more of the last size
    made_with : (x : ℕ) → MadeOf j (suc i) (a - w) x → MadeOf j (suc i) a (suc x)
    made_with x d = record {
      picks = one_more d.picks i;
      makes = makes_more j a d.picks i (le_refl (suc i)) fits d.makes;
      blocks = more_sum d.picks i (omega (arith, d.makes.one_each)) ∙ ap suc d.blocks;
    }

    made_either : (x : ℕ) → MadeOf j (suc i) a x → MadeOf j i a x ⊎ ((y : ℕ) × (x ≡ suc y) × MadeOf j (suc i) (a - w) y)
    made_either x d =
        elim (makes_either d.picks d.makes) [
          | inl h ↦ inl (without_made a x d.picks h d.blocks)
          | inr (p, m, e) ↦ inr
              (sum p, sym d.blocks ∙ ap sum e ∙ more_sum p i (omega (arith, m.one_each)), record { picks = p; makes = m; blocks = refl })
        ]

    -- the fewest blocks for a with one size more: those with the sizes before, or one more than those for a less the size. No number of
    -- blocks comes to the mark for no way
    module _ (below : (z : ℕ) → MadeOf j (suc i) a z → z < no_way) where
      pub fewest_more : (x y : ℕ) → LeastShown (MadeOf j i a) x → LeastShown (MadeOf j (suc i) (a - w)) y
          → LeastShown (MadeOf j (suc i) a) (min x (suc y))
      fewest_more x y (shown d least) (shown e low) =
          elim (dec_le x (suc y)) [
            | yes h ↦ let here : x ≡ min x (suc y) = omega arith in subst (LeastShown (MadeOf j (suc i) a)) here
                (shown (made_without a x d) (λ z g. elim (made_either z g) [ inl k ↦ least z k | inr (u, s, k) ↦ omega (arith, low u k) ]))
            | no h ↦ let here : suc y ≡ min x (suc y) = omega arith in subst (LeastShown (MadeOf j (suc i) a)) here
                (shown (made_with y e) (λ z g. elim (made_either z g) [ inl k ↦ omega (arith, least z k) | inr (u, s, k) ↦ omega (arith, low u k) ]))
          ]
      fewest_more x y (shown d least) (none_shown none e) =
          let here : x ≡ min x (suc y) = omega (arith, below x (made_without a x d)) in
          subst (LeastShown (MadeOf j (suc i) a)) here
          (shown (made_without a x d) (λ z g. elim (made_either z g) [ inl k ↦ least z k | inr (u, s, k) ↦ absurd (none u k) ]))
      fewest_more x y (none_shown none e) (shown d low) =
          let here : suc y ≡ min x (suc y) = omega (arith, below (suc y) (made_with y d)) in
          subst (LeastShown (MadeOf j (suc i) a)) here
          (shown (made_with y d) (λ z g. elim (made_either z g) [ inl k ↦ absurd (none z k) | inr (u, s, k) ↦ omega (arith, low u k) ]))
      fewest_more x y (none_shown none e) (none_shown none' e') =
          none_shown (λ z g. elim (made_either z g) [ inl k ↦ none z k | inr (u, s, k) ↦ none' u k ]) (omega arith)

-- ---- the blocks of a list

-- they are no more than the amount, since sizes are 1 or more
pub few_blocks : (j : Job) (i a x : ℕ) → ((m : ℕ) → m < i → 1 ≤ at j.weights m) → i ≤ labels j → MadeOf j i a x → x ≤ a
unfolding labels
few_blocks j i a x pos h d =
    let within = each_counts j.weights d.picks (λ m l. pos m (omega (arith, d.makes.one_each))) (omega (arith, d.makes.one_each)) in
    omega (arith, d.blocks, d.makes.sums_to)

-- with no sizes, amount 0 is made of no blocks
pub fewest_none : (j : Job) → LeastShown (MadeOf j 0 0) 0
unfolding sum
fewest_none j =
    shown (record { picks = []; makes = record { one_each = refl; sums_to = total_none j.weights }; blocks = refl }) (λ z d. omega arith)

-- and no other is made
pub fewest_no_sizes : (j : Job) (a : ℕ) → 0 < a → LeastShown (MadeOf j 0 a) no_way
fewest_no_sizes j a pos =
    none_shown
    (λ z d. omega (arith, d.makes.sums_to, ap (total j.weights) (empty_of d.picks d.makes.one_each) ∙ total_none j.weights))
    refl

-- ---- the ways with no sizes, and for amount 0

-- with no sizes amount 0 has the empty list alone
pub ways_none : (j : Job) → WaysFor j 0 0 1
unfolding WaysFor Distinct
ways_none j = record {
  those = [] ∷ [];
  distinct = (λ m. Memᴰ.not-nil m, tt);
  no_others =
      λ q m.
      let e : q ≡ [] = Memᴰ.eq_of_singleton m in
      record { one_each = ap length e; sums_to = ap (total j.weights) e ∙ total_none j.weights };
  them_all = λ q m. Memᴰ.head (empty_of q m.one_each);
  size = refl;
}

-- without sizes there is no way to make a positive amount
pub no_sizes : (j : Job) (a : ℕ) → 0 < a → WaysFor j 0 a 0
unfolding WaysFor Distinct
no_sizes j a pos = record {
  those = [];
  distinct = tt;
  no_others = λ q m. absurd (Memᴰ.not-nil m);
  them_all = λ q m. absurd (omega (arith, m.sums_to, ap (total j.weights) (empty_of q m.one_each) ∙ total_none j.weights));
  size = refl;
}

-- amount 0 has one way
pub amount_0 : (j : Job) → ((m : ℕ) → m < labels j → 0 < at j.weights m) → (i : ℕ) → i ≤ labels j → WaysFor j i 0 1
amount_0 j pos zero h = ways_none j
amount_0 j pos (suc i) h = ways_skip j i 0 1 (pos i h) (amount_0 j pos i (omega arith))
