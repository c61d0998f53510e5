-- Closed cases as tables: a line each, with what goes in and what has to come out; and what a job is refused with, for slices of some lengths.
-- Assumes nothing.
use mathlib.Core.Path.{◌≡◌}
use mathlib.Core.Option.{Option, none, some}
use Prim.Native.Nat.{ℕ}
use mathlib.Core.List.{List, map}
use lib.ListN.{replicate}
use Rattle.meaning.specs.declared.Way.{Way}
use Rattle.meaning.specs.declared.Way.TheVariants.{Light}
use Rattle.meaning.specs.Job.{Job, Kind, kind_of}
use Rattle.meaning.specs.Lent.{Lent, lent_of, room_by}
use Rattle.meaning.specs.Refusals.{kind_refusal}

-- ---- tables: what goes in, and what comes out

pub data Line (A B : Type 0) : Type 0 where
  ◌gives◌ : A → B → Line A B

infixr 70 ◌gives◌
abbrev pub into : {A B : Type 0} → (A → B) → Line A B → B
into f (a gives b) = f a

abbrev pub out_of : {A B : Type 0} → Line A B → B
out_of (a gives b) = b

-- f makes of what goes in at each line what comes out there
abbrev pub Computes : {A B : Type 0} → (A → B) → List (Line A B) → Type 0
Computes f lines = map (into f) lines ≡ map out_of lines

-- ---- a refusal: 2 to 6 and 9

-- cells, words and picks of these lengths
abbrev pub room : ℕ → ℕ → ℕ → Lent
room c w p = lent_of (replicate c 0) (replicate w 0) (replicate p 0)

abbrev pub plenty : Lent
plenty = room 99 99 99

abbrev pub nothing : Lent
nothing = room 0 0 0

abbrev pub as_kind : Way → Option Kind → Job → Lent → ℕ
as_kind way none j lent = 2
as_kind way (some k) j lent = kind_refusal (room_by way k j) k j lent

abbrev pub refusal_by : Way → Job × Lent → ℕ
refusal_by way (j, lent) = as_kind way (kind_of j.kind_number) j lent

-- by the light way
abbrev pub refusal_of : Job × Lent → ℕ
refusal_of asked = refusal_by Light asked
