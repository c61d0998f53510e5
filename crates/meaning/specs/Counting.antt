-- 'The number of': one meaning for kind 4's totals and kind 6's ways.
-- Assumes nothing.
use Rattle.std.specs.Prelude.{◌≡◌, ℕ, length}
use mathlib.Core.List.{List, [], ◌∷◌, Memᴰ}

-- no member twice
unfoldable pub Distinct : {A : Type 0} → List A → Type 0
Distinct [] = Unit
Distinct (x ∷ xs) = (¬ Memᴰ x xs) × Distinct xs

-- there are just n things with P: some list without repetition holds them all and no others, and its length is n
pub record Counted {A : Type 0} (P : A → Type 0) (n : ℕ) : Type 0 where
  pub those : List A
  pub distinct : Distinct those
  pub no_others : (a : A) → Memᴰ a those → P a
  pub them_all : (a : A) → P a → Memᴰ a those
  pub size : length those ≡ n
