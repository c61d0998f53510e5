-- Kind 7: shares sum to C.
-- Assumes nothing.
use mathlib.Core.Path.{◌∙◌, ◌≡◌, ap, refl, sym}
use Prim.Native.Nat.{◌*◌, ◌+◌, ◌<◌, ◌≤◌, suc, zero, ℕ}
use native.Mathlib.Nat.{add-mul, div-add-mod', le_of_mul-le-mul_right, le_refl, mod-lt, mul-add, mul-zero, suc-mul, zero-mul}
use native.Mathlib.Omega.{arith}
use mathlib.Core.Bool.{Bool}
use mathlib.Core.List.{List, [], ◌∷◌, map, map-append}
use lib.Dec.{ltb}
use lib.ListN.{length, take}
use Rattle.meaning.specs.Lists.{at, if, sum, up_to, tally}
use Rattle.meaning.specs.Job.{Job, labels}
use Rattle.meaning.specs.Shares.{rank_of, remainder_of, share_of, shares_of, spare_of, start_of}
use Rattle.meaning.proofs.Loops.{sum_all, sum_more, sum_snoc}
use Rattle.meaning.proofs.Tally.{tally_step}
use Rattle.meaning.proofs.Ranks.{served}

-- ---- sums over the first n labels

-- f 0 + f 1 + .. + f (n-1)
unfoldable pub sum_over : (ℕ → ℕ) → ℕ → ℕ
sum_over f n = sum (map f (up_to n))

over_zero : (f : ℕ → ℕ) → sum_over f 0 ≡ 0
unfolding sum_over up_to sum
over_zero f = refl

over_suc : (f : ℕ → ℕ) (n : ℕ) → sum_over f (suc n) ≡ sum_over f n + f n
unfolding sum_over up_to
over_suc f n = ap sum (map-append f (up_to n) (n ∷ [])) ∙ sum_snoc (map f (up_to n)) (f n)

over_add : (f g : ℕ → ℕ) (n : ℕ) → sum_over (λ i. f i + g i) n ≡ sum_over f n + sum_over g n
over_add f g zero = omega (arith, over_zero (λ i. f i + g i), over_zero f, over_zero g)
over_add f g (suc n) = omega (arith, over_suc (λ i. f i + g i) n, over_suc f n, over_suc g n, over_add f g n)

over_bound : (f : ℕ → ℕ) (s n : ℕ) → ((i : ℕ) → f i ≤ s) → sum_over f n ≤ n * s
over_bound f s zero h = omega (arith, over_zero f)
over_bound f s (suc n) h = omega (arith, over_suc f n, over_bound f s n h, h n, suc-mul n s)

over_list : (xs : List ℕ) (i : ℕ) → i ≤ length xs → sum_over (at xs) i ≡ sum (take i xs)
unfolding sum
over_list xs zero h = over_zero (at xs)
over_list xs (suc i) h = over_suc (at xs) i ∙ ap (λ (x : ℕ). x + at xs i) (over_list xs i (omega arith)) ∙ sym (sum_more xs i h)

-- ---- the starts: at most C together, and the spare is at most n

module _ (j : Job) (pos : 0 < sum j.weights) where
  abbrev S : ℕ
  S = sum j.weights

  abbrev n : ℕ
  n = length j.weights

  -- C times the claims is S times the starts, and the remainders
  whole : (i : ℕ) → j.budget * sum_over (at j.weights) i ≡ sum_over (start_of j) i * S + sum_over (remainder_of j) i
  unfolding start_of remainder_of sum_over up_to sum
  whole zero = omega (arith, mul-zero j.budget, zero-mul S)
  whole (suc i) =
      rw (over_suc (at j.weights) i, over_suc (start_of j) i, over_suc (remainder_of j) i)
      (omega (
        arith,
        whole i,
        mul-add j.budget (sum_over (at j.weights) i) (at j.weights i),
        add-mul (sum_over (start_of j) i) (start_of j i) S,
        div-add-mod' (j.budget * at j.weights i) S,
      ))

  -- the same over all labels
  together : j.budget * S ≡ sum_over (start_of j) n * S + sum_over (remainder_of j) n
  together = ap (λ (x : ℕ). j.budget * x) (sym (over_list j.weights n (le_refl n) ∙ sum_all j.weights)) ∙ whole n

  remainders : sum_over (remainder_of j) n ≤ n * S
  unfolding remainder_of
  remainders = over_bound (remainder_of j) S n (λ i. omega (arith, mod-lt (j.budget * at j.weights i) pos))

  pub starts_within : sum_over (start_of j) n ≤ j.budget
  starts_within = le_of_mul-le-mul_right (omega (arith, together)) pos

  pub spare_few : j.budget ≤ sum_over (start_of j) n + n
  spare_few = le_of_mul-le-mul_right (omega (arith, together, remainders, add-mul (sum_over (start_of j) n) n S)) pos

over_tally : (f : ℕ → Bool) (k : ℕ) → sum_over (λ i. if (f i) 1 0) k ≡ tally f (up_to k)
unfolding up_to tally
over_tally f zero = over_zero (λ i. if (f i) 1 0)
over_tally f (suc k) = over_suc (λ i. if (f i) 1 0) k ∙ omega (arith, over_tally f k, tally_step f k)

-- Shares sum to C
pub shares_sum : (j : Job) → 0 < sum j.weights → sum (shares_of j) ≡ j.budget
unfolding shares_of share_of spare_of sum_over labels
shares_sum j pos =
    over_add (start_of j) (λ i. if (ltb (rank_of j i) (spare_of j)) 1 0) (labels j)
    ∙ omega (arith, over_tally (λ i. ltb (rank_of j i) (spare_of j)) (labels j), served j (spare_of j) (omega (arith, spare_few j pos)), starts_within j pos)
