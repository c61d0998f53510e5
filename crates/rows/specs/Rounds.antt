-- A slice that is made label by label.
-- Assumes nothing.
use Rattle.std.specs.Prelude.{ℕ, suc, List}

-- what the slice holds after the first i labels: with none it is a `First`, and each label makes of it what `Next` says
pub data LabelByLabel (First : List ℕ → Type 0) (Next : ℕ → List ℕ → List ℕ → Type 0) : ℕ → List ℕ → Type 0 where
  none_yet : {s : List ℕ} → First s → LabelByLabel First Next 0 s
  one_more : {i : ℕ} {s t : List ℕ} → LabelByLabel First Next i s → Next i s t → LabelByLabel First Next (suc i) t
