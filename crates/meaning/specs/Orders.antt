-- Which of several equally good lists of counts is chosen: the house rules on ties.
-- Assumes nothing.
use Rattle.std.specs.Prelude.{◌≡◌, ℕ, ◌≤◌, ◌<◌, List}
use Rattle.meaning.specs.Lists.{at}

-- the orders in which counts are settled, each named by the label that is settled first and by what its count is to be.
-- last-least: smallest read from the last label to the first (kinds 1, 2, 8 and 9);
-- first-most: label 0's count as great as it can be, then label 1's, and so on (kind 3);
-- last-most: the last size's count as great as it can be, then the one before it, and so on (kind 5)
pub data Order : Type 0 where
  last_least first_most last_most : Order

-- label i is settled earlier than label m
unfoldable pub Earlier : Order → ℕ → ℕ → Type 0
Earlier last_least i m = m < i
Earlier first_most i m = i < m
Earlier last_most i m = m < i

-- a label's count x is no worse than y
unfoldable pub NoWorse : Order → ℕ → ℕ → Type 0
NoWorse last_least x y = x ≤ y
NoWorse first_most x y = y ≤ x
NoWorse last_most x y = y ≤ x

-- q and p agree on the labels that are settled earlier than label m
unfoldable pub AgreeEarlier : Order → ℕ → ℕ → List ℕ → List ℕ → Type 0
AgreeEarlier o n m q p = (i : ℕ) → i < n → Earlier o i m → at q i ≡ at p i

-- of the lists of n counts with P, p is the chosen one: each label's count is as good as it can be, given those settled earlier
pub record Chosen (o : Order) (n : ℕ) (P : List ℕ → Type 0) (p : List ℕ) : Type 0 where
  pub one_of : P p
  pub settled : (m : ℕ) → m < n → (q : List ℕ) → P q → AgreeEarlier o n m q p → NoWorse o (at p m) (at q m)
