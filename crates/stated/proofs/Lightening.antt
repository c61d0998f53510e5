-- A row of least weights from the row before it: the rule of a cell, and a copied front with the rest made by the rule.
-- Assumes nothing.
use mathlib.Core.Path.{◌≡◌, ◌∙◌}
use Prim.Native.Nat.{ℕ, ◌+◌, ◌-◌, ◌≤◌, ◌<◌, min}
use native.Mathlib.Omega.{arith}
use mathlib.Core.List.{List}
use borrow.Author.Tests.{le-leb, lt-leb}
use Rattle.meaning.specs.Lists.{at, if}
use Rattle.rows.specs.Rows.{Stored}
use Rattle.rows.proofs.Stores.{by}
use Rattle.stated.specs.LeastWeights.{lighter, NextWeights}

module _ (c w x y : ℕ) where
  -- past the budget with the label, the cell stays
  pub lighter_past : c < y + w → lighter c w x y ≡ x
  unfolding lighter if
  lighter_past h = rw (lt-leb (y + w) c h)

  -- within it, it is the lesser of the two
  pub lighter_lesser : y + w ≤ c → lighter c w x y ≡ min x (y + w)
  unfolding lighter if
  lighter_lesser h = rw (le-leb (y + w) c h)

  -- so it never grows
  pub lighter_least : lighter c w x y ≤ x
  lighter_least = by c (y + w) (λ past. omega (arith, lighter_past past)) (λ within. omega (arith, lighter_lesser within))

-- s is the table before, t with the row copied up to total a, u with it made by the rule from there on
pub next_made : (s t u : List ℕ) (from width c room w a : ℕ) → a ≤ width → w + room ≡ c
    → Stored s t (from + width) 0 a (λ k. at s (from + k))
    → Stored t u (from + width) a width (λ k. lighter (w + room) w (at t (from + k)) (at t (from + (k - a))))
    → NextWeights s u from width c w a
next_made s t u from width c room w a within whole copied made =
    let same : (k : ℕ) → k < width → at t (from + k) ≡ at s (from + k) = λ k h. copied.before (from + k) (omega arith) in
    record {
      made = record {
        short = λ k h l. made.before (from + width + k) (omega arith) ∙ copied.cells k (omega arith) l;
        long = λ k h l. made.cells k l h ∙ rw (whole, same k h, same (k - a) (omega arith));
      };
      before = λ k h. made.before k (omega arith) ∙ copied.before k (omega arith);
    }
