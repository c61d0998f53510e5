-- Kinds 3 and 5: the picks are read off the table by taking, again and again, the first label in the order's turn that the best leaves.
-- Once over both kinds: P c holds the best lists for c, and a list of them that uses a label is, with one fewer of it, one of the best for what is
-- left.
-- Assumes nothing.
use mathlib.Core.Path.{◌≡◌, sym, ◌∙◌, subst}
use mathlib.Core.Logic.{◌⊎◌, inl, inr}
use Prim.Native.Nat.{ℕ, suc, ◌≤◌, ◌<◌, zero-le}
use native.Mathlib.Decide.{dec_le, ℕ_discrete}
use native.Mathlib.Nat.{le_trans, le_of_eq}
use native.Mathlib.Omega.{arith}
use mathlib.Core.List.{List}
use lib.ListN.{length}
use Rattle.meaning.specs.Lists.{at}
use Rattle.meaning.specs.Orders.{Order, first_most, last_most, Earlier, NoWorse, AgreeEarlier, Chosen}
use Rattle.meaning.proofs.Totals.{at_fewer, at_fewer_other, at_more, at_more_other, one_fewer, one_more}

-- the two orders by which counts are as great as they can be
pub data Most : Order → Type 0 where
  first_is : Most first_most
  last_is : Most last_most

no_worse_in : {o : Order} → Most o → (x y : ℕ) → y ≤ x → NoWorse o x y
unfolding NoWorse
no_worse_in first_is x y h = h
no_worse_in last_is x y h = h

no_worse_out : {o : Order} → Most o → (x y : ℕ) → NoWorse o x y → y ≤ x
unfolding NoWorse
no_worse_out first_is x y h = h
no_worse_out last_is x y h = h

three : {o : Order} → Most o → (a b : ℕ) → (Earlier o a b × (a ≡ b → ⊥)) ⊎ ((a ≡ b) ⊎ (Earlier o b a × (a ≡ b → ⊥)))
unfolding Earlier
three first_is a b =
    elim (dec_le (suc a) b) [
      | yes h ↦ inl (h, λ e. omega arith)
      | no h ↦ elim (dec_le (suc b) a) [ yes k ↦ inr (inr (k, λ e. omega arith)) | no k ↦ inr (inl (omega arith)) ]
    ]
three last_is a b =
    elim (dec_le (suc b) a) [
      | yes h ↦ inl (h, λ e. omega arith)
      | no h ↦ elim (dec_le (suc a) b) [ yes k ↦ inr (inr (k, λ e. omega arith)) | no k ↦ inr (inl (omega arith)) ]
    ]

module _ (o : Order) (most : Most o) (n : ℕ) (Here Left : List ℕ → Type 0) (m : ℕ) (m< : m < n)
    (long : (q : List ℕ) → Here q → length q ≡ n) (long' : (q : List ℕ) → Left q → length q ≡ n)
    (fewer : (q : List ℕ) → Here q → 0 < at q m → Left (one_fewer q m))
    (unused : (i : ℕ) → i < n → Earlier o i m → (q : List ℕ) → Here q → at q i ≡ 0) where
  -- `Here` are the best lists for c and `Left` those for what one of label m leaves; no best list for c uses a label that is settled before m
  pub greedy_step : (p : List ℕ) → Chosen o n Left p → Here (one_more p m) → Chosen o n Here (one_more p m)
  unfolding AgreeEarlier
  greedy_step p t here = record { one_of = here; settled = settled }
    where
      p_long : length p ≡ n
      p_long = long' p t.one_of

      mine : at (one_more p m) m ≡ suc (at p m)
      mine = at_more p m (omega (arith, p_long))

      -- what p says of q with one fewer
      below : (i : ℕ) → i < n → (q : List ℕ) → Here q → 0 < at q m
          → ((l : ℕ) → l < n → Earlier o l i → at q l ≡ at (one_more p m) l) → at (one_fewer q m) i ≤ at p i
      below i hi q hq pos a =
          no_worse_out most (at p i) (at (one_fewer q m) i)
          (t.settled i hi (one_fewer q m) (fewer q hq pos)
          (λ l hl b.
          elim (ℕ_discrete l m) [
            | yes e ↦
                subst (λ (z : ℕ). at (one_fewer q m) z ≡ at p z) (sym e)
                (let e' : at q m ≡ at (one_more p m) m = subst (λ (z : ℕ). at q z ≡ at (one_more p m) z) e (a l hl b) in
                omega (arith, at_fewer q m (omega (arith, long q hq)), mine))
            | no ne ↦ at_fewer_other q m l ne ∙ a l hl b ∙ at_more_other p m l ne
          ]))

      settled : (i : ℕ) → i < n → (q : List ℕ) → Here q → ((l : ℕ) → l < n → Earlier o l i → at q l ≡ at (one_more p m) l)
          → NoWorse o (at (one_more p m) i) (at q i)
      settled i hi q hq a =
          no_worse_in most (at (one_more p m) i) (at q i)
          (elim (three most i m) [
            | inl (b, ne) ↦ le_trans (le_of_eq (unused i hi b q hq)) zero-le
            | inr (inl e) ↦
                subst (λ (z : ℕ). at q z ≤ at (one_more p m) z) (sym e)
                (elim (dec_le 1 (at q m)) [
                  | yes pos ↦
                      let least = subst (λ (z : ℕ). at (one_fewer q m) z ≤ at p z) e (below i hi q hq pos a) in
                      omega (arith, mine, at_fewer q m (omega (arith, long q hq)), least)
                  | no none_of ↦ omega arith
                ])
            | inr (inr (b, ne)) ↦
                let agree : at q m ≡ at (one_more p m) m = a m m< b in
                omega (arith, at_more_other p m i ne, at_fewer_other q m i ne, below i hi q hq (omega (arith, mine)) a)
          ])
