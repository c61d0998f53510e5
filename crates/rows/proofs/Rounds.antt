-- What a slice that is made label by label keeps, and the loop that makes it.
-- Assumes nothing.
use mathlib.Core.Path.{◌≡◌, refl, sym, ◌∙◌}
use Prim.Native.Nat.{ℕ, zero, suc, ◌+◌, ◌≤◌, ◌<◌}
use native.Mathlib.Numerals.{add-one}
use native.Mathlib.Omega.{arith}
use mathlib.Core.List.{List}
use lib.ListN.{length}
use Rattle.rows.specs.Rounds.{LabelByLabel, none_yet, one_more}

-- what holds with no labels, and with one of n labels more wherever it held before, holds
pub each_round : (First : List ℕ → Type 0) (Next : ℕ → List ℕ → List ℕ → Type 0) (Keeps : ℕ → List ℕ → Type 0) (n : ℕ)
    → ((s : List ℕ) → First s → Keeps 0 s) → ((i : ℕ) (s t : List ℕ) → i < n → Keeps i s → Next i s t → Keeps (suc i) t)
    → (i : ℕ) (s : List ℕ) → i ≤ n → LabelByLabel First Next i s → Keeps i s
each_round First Next Keeps n first next zero s h (none_yet f) = first s f
each_round First Next Keeps n first next (suc i) t h (one_more {s = s} d step) =
    next i s t h (each_round First Next Keeps n first next i s (omega arith) d) step

-- a loop over n labels has made a slice of `width` places with i of them. What the first contents are, and what a label makes of them, goes by
-- the width
pub record Rounds (First : ℕ → List ℕ → Type 0) (Next : ℕ → ℕ → List ℕ → List ℕ → Type 0) (n width i : ℕ) (s : List ℕ) : Type 0 where
  pub some_of : i ≤ n
  pub long : length s ≡ width
  pub made : LabelByLabel (First width) (Next width) i s

module _ {First : ℕ → List ℕ → Type 0} {Next : ℕ → ℕ → List ℕ → List ℕ → Type 0} {n : ℕ} where
  pub rounds_none : {s : List ℕ} → First (length s) s → Rounds First Next n (length s) 0 s
  rounds_none first = record { some_of = omega arith; long = refl; made = none_yet first }

  -- one label more
  pub rounds_more : {width i : ℕ} {s t : List ℕ} → Rounds First Next n width i s → i < n → length t ≡ length s → Next (length s) i s t
      → Rounds First Next n width (i + 1) t
  rounds_more d h kept step = record { some_of = omega arith; long = kept ∙ d.long; made = rw add-one (one_more d.made (rw d.long at step)) }

  -- all of them, in a slice that is as long as the one that was lent
  pub rounds_all : {width i : ℕ} {s : List ℕ} (all lent : ℕ) → Rounds First Next n width i s → n ≤ i → n ≡ all → length s ≡ lent
      → LabelByLabel (First lent) (Next lent) all s
  rounds_all {width} {i} all lent d h e long =
      let last : i ≡ all = omega (arith, d.some_of) in
      let same : width ≡ lent = sym d.long ∙ long in
      rw (← last, ← same) d.made
