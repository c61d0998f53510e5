-- Kind 3: a fitting selection with one more of a label, and with one fewer.
-- Assumes nothing.
use mathlib.Core.Path.{◌≡◌, ◌∙◌}
use Prim.Native.Nat.{ℕ, ◌+◌, ◌-◌, ◌≤◌, ◌<◌}
use native.Mathlib.Omega.{arith}
use mathlib.Core.List.{List}
use lib.ListN.{length}
use Rattle.meaning.specs.Lists.{at, total}
use Rattle.meaning.specs.Job.{Job, labels, free}
use Rattle.meaning.specs.Knapsacks.{MayPick, Fits}
use Rattle.meaning.proofs.Totals.{one_more, one_fewer, length_more, length_fewer, more_total, fewer_total}

module _ (j : Job) (c : ℕ) (p : List ℕ) (m : ℕ) (h : m < labels j) where
  -- what fits in what one of label m leaves fits with one more of it
  pub free_more : at j.weights m ≤ c → Fits free j (labels j) (c - at j.weights m) p → Fits free j (labels j) c (one_more p m)
  unfolding MayPick
  free_more heavy f =
      let long : length p ≡ labels j = f.selection.one_each in
      record {
        selection = record { one_each = length_more p m ∙ long; allowed = λ i k. tt };
        weight = omega (arith, f.weight, more_total j.weights p m (omega arith));
      }

  -- what uses label m leaves room for one of it, and fits there with one fewer
  pub free_fewer : 0 < at p m → Fits free j (labels j) c p → (at j.weights m ≤ c) × Fits free j (labels j) (c - at j.weights m) (one_fewer p m)
  unfolding MayPick
  free_fewer Some-of f =
      let long : length p ≡ labels j = f.selection.one_each in
      let lighter : total j.weights (one_fewer p m) + at j.weights m ≡ total j.weights p =
      fewer_total j.weights p m (omega arith) Some-of in (
        omega (arith, f.weight),
        record { selection = record { one_each = length_fewer p m ∙ long; allowed = λ i k. tt }; weight = omega (arith, f.weight) },
      )
