-- The least count of a label that is worth what a cell holds, tried from 0 up.
-- Assumes nothing.
use mathlib.Core.Path.{◌≡◌, sym, ap, ◌∙◌}
use Prim.Native.Nat.{ℕ, ◌+◌, ◌*◌, ◌≤◌, ◌<◌}
use native.Mathlib.Nat.{mul-add, mul-le-mul_left, mul-le-mul_right, one-mul}
use native.Mathlib.Omega.{arith}
use Rattle.rows.specs.Rows.{Worth, SomeCount, Least}
use Rattle.rows.proofs.Stores.{by}

-- what is known where x of the label are not worth the goal yet
pub record GoesOn (f : ℕ → ℕ) (w v c goal x left rest : ℕ) : Type 0 where
  pub fewer : (y : ℕ) → y < x + 1 → ¬ Worth f w v c y goal
  pub light : w ≤ left
  pub cheap : v ≤ rest
  pub few : x + 1 ≤ c

-- x of the label are under trial, they leave `left` of the budget and `rest` of the goal, and no fewer are worth it
module _ (f : ℕ → ℕ) (w v c goal x left rest : ℕ) (spent : left + w * x ≡ c) (gained : rest + v * x ≡ goal)
    (fewer : (y : ℕ) → y < x → ¬ Worth f w v c y goal) where
  pub found : f left ≡ rest → Least f w v c goal x
  found e = record { made = record { left = left; spent = spent; worth = omega (arith, e) }; fewer = fewer }

  module _ (not_yet : ¬ (f left ≡ rest)) where
    not_here : ¬ Worth f w v c x goal
    not_here r =
        let same : r.left ≡ left = omega (arith, r.spent) in
        not_yet (sym (ap f same) ∙ omega (arith, r.worth))

    not_fewer : (y : ℕ) → y < x + 1 → ¬ Worth f w v c y goal
    not_fewer y h r = by y x (λ l. fewer y l r) (λ l. let same : y ≡ x = omega arith in not_here (rw same at r))

    -- where some count is worth it, that is a greater one, so that one more goes on
    pub goes_on : 1 ≤ w → SomeCount f w v c goal → GoesOn f w v c goal x left rest
    goes_on pos some =
        let more : x + 1 ≤ some.count = by some.count (x + 1) (λ l. absurd (not_fewer some.count l some.made)) (λ l. l) in
        let heavy : 1 * some.count ≤ w * some.count = mul-le-mul_right some.count pos in
        record {
          fewer = not_fewer;
          light = omega (arith, mul-le-mul_left w more, mul-add w x 1, some.made.spent);
          cheap = omega (arith, mul-le-mul_left v more, mul-add v x 1, some.made.worth);
          few = omega (arith, one-mul some.count, some.made.spent);
        }
