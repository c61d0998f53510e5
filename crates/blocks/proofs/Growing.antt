-- The rows as they are made size by size: one argument for the fewest blocks and for the ways, and one loop.
-- Assumes nothing.
use mathlib.Core.Path.{subst, sym}
use Prim.Native.Nat.{ℕ, zero, suc, ◌+◌, ◌-◌, ◌≤◌, ◌<◌}
use native.Mathlib.Omega.{arith}
use mathlib.Core.List.{List}
use lib.ListN.{length}
use Rattle.meaning.specs.Lists.{at}
use Rattle.meaning.specs.Cells.{LeastShown, no_way}
use Rattle.meaning.specs.Job.{Job, labels}
use Rattle.meaning.specs.Bounds.{most_budget}
use Rattle.meaning.specs.Blocks.{MadeOf, WaysShown, too_many}
use Rattle.meaning.proofs.Making.{few_blocks, fewest_none, fewest_no_sizes, fewest_skip, fewest_more, ways_none, no_sizes, ways_skip, ways_more}
use Rattle.rows.specs.Rows.{Swept, FirstAlone}
use Rattle.rows.proofs.Stores.{by, alone_shows}
use Rattle.rows.proofs.Rounds.{each_round, Rounds}
use Rattle.blocks.specs.Sizes.{Bounded, fewer_of, ways_of, Grown}

-- the loop over n sizes: i of them have made the row
abbrev pub Growing : (ℕ → ℕ → ℕ) → ℕ → ℕ → List ℕ → ℕ → ℕ → ℕ → List ℕ → Type 0
Growing rule one none sizes n width i row = Rounds (FirstAlone one none) (λ wide m s t. Swept rule s t (at sizes m) (at sizes m) wide) n width i row

-- `Shows i a x`: x is right for the first i sizes and amount a. Where the cells with no sizes are right, and the rule makes a right cell of
-- the one without a size and the one for the rest, all cells are right
module _ (rule : ℕ → ℕ → ℕ) (one none : ℕ) (sizes : List ℕ) (width : ℕ) (bounds : Bounded width sizes) (Shows : ℕ → ℕ → ℕ → Type 0)
    (first : Shows 0 0 one) (others : (a : ℕ) → 0 < a → Shows 0 a none)
    (skip : (i a x : ℕ) → a < at sizes i → Shows i a x → Shows (suc i) a x)
    (more : (i a x y : ℕ) → i < length sizes → a < width → at sizes i ≤ a
    → Shows i a x → Shows (suc i) (a - at sizes i) y → Shows (suc i) a (rule x y)) where
  -- with one size more, for the amounts below n
  one_more_size : (i : ℕ) (row next : List ℕ) → i < length sizes → ((a : ℕ) → a < width → Shows i a (at row a))
      → Swept rule row next (at sizes i) (at sizes i) width → (n a : ℕ) → a < n → a < width → Shows (suc i) a (at next a)
  one_more_size i row next inside rows d zero a h l = absurd (omega arith)
  one_more_size i row next inside rows d (suc n) a h l =
      by a (at sizes i)
      (λ short. subst (Shows (suc i) a) (sym (d.before a short)) (skip i a (at row a) short (rows a l)))
      (λ long.
      subst (Shows (suc i) a) (sym (d.made a long l))
      (more i a (at row a) (at next (a - at sizes i)) inside l long (rows a l)
      (one_more_size i row next inside rows d n (a - at sizes i) (omega (arith, bounds.whole i inside)) (omega arith))))

  grown_shows : (row : List ℕ) → Grown rule one none sizes width (length sizes) row → (a : ℕ) → a < width → Shows (length sizes) a (at row a)
  grown_shows row =
      each_round _ _ (λ i s. (a : ℕ) → a < width → Shows i a (at s a)) (length sizes)
      (alone_shows one none width (Shows 0) first others)
      (λ i s t inside rows up a h. one_more_size i s t inside rows up (suc a) a (omega arith) h)
      (length sizes) row (omega arith)

-- what is no more than an amount within its bound is below the mark for no way
few_enough : {z a width : ℕ} → z ≤ a → a < width → width ≤ most_budget + 1 → z < no_way
unfolding most_budget no_way
few_enough h l narrow = omega arith

module _ (j : Job) (width : ℕ) (bounds : Bounded width j.weights) (row : List ℕ) where
  -- kind 5: the fewest blocks. They are no more than the amount, so no number of them is the mark for no way
  pub grown_fewest : Grown fewer_of 0 no_way j.weights width (labels j) row → (a : ℕ) → a < width → LeastShown (MadeOf j (labels j) a) (at row a)
  unfolding labels
  grown_fewest =
      grown_shows fewer_of 0 no_way j.weights width bounds (λ i a x. LeastShown (MadeOf j i a) x)
      (fewest_none j) (fewest_no_sizes j) (λ i a x short. fewest_skip j i a x short)
      (λ i a x y inside l long. fewest_more j i a long (below i a inside l) x y)
      row
    where
      below : (i a : ℕ) → i < length j.weights → a < width → (z : ℕ) → MadeOf j (suc i) a z → z < no_way
      below i a inside l z d = few_enough (few_blocks j (suc i) a z (λ m h. bounds.whole m (omega arith)) inside d) l bounds.narrow

  -- kind 6: the ways, as far as they can be counted
  pub grown_ways : Grown ways_of 1 0 j.weights width (labels j) row → (a : ℕ) → a < width → WaysShown j (labels j) a (at row a)
  unfolding labels too_many
  grown_ways =
      grown_shows ways_of 1 0 j.weights width bounds (λ i a x. WaysShown j i a x)
      (record { many = 1; how_many = ways_none j; lesser = omega arith })
      (λ a pos. record { many = 0; how_many = no_sizes j a pos; lesser = omega arith })
      (λ i a x short d. record { many = d.many; how_many = ways_skip j i a d.many short d.how_many; lesser = d.lesser })
      (λ i a x y inside l long d e. record {
        many = d.many + e.many;
        how_many = ways_more j i a long d.many e.many d.how_many e.how_many;
        lesser = omega (arith, d.lesser, e.lesser);
      })
      row
