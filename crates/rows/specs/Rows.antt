-- Cells alone: what loops store and sweep, and what a label of weight w and value v makes of a row f of values by budget.
-- Assumes nothing.
use Rattle.std.specs.Prelude.{◌≡◌, ℕ, ◌+◌, ◌-◌, ◌*◌, ◌≤◌, ◌<◌, max, min, Bool, ◌&&◌, List, leb, eqb}
use Rattle.meaning.specs.Lists.{at}
use Rattle.meaning.specs.Bounds.{most_value}

-- at budget c, x of the label over the row for what they leave are worth b
pub record Worth (f : ℕ → ℕ) (w v c x b : ℕ) : Type 0 where
  pub left : ℕ
  pub spent : left + w * x ≡ c
  pub worth : b ≡ f left + v * x

-- some count is worth b
pub record SomeCount (f : ℕ → ℕ) (w v c b : ℕ) : Type 0 where
  pub count : ℕ
  pub made : Worth f w v c count b

-- b is the greatest worth over the counts that may be picked
pub record Greatest (May : ℕ → Type 0) (f : ℕ → ℕ) (w v c b : ℕ) : Type 0 where
  pub count : ℕ
  pub may : May count
  pub made : Worth f w v c count b
  pub above : (x y : ℕ) → May x → Worth f w v c x y → y ≤ b

-- any number may be picked
abbrev pub AnyCount : ℕ → Type 0
AnyCount x = Unit

-- g is such a row: each of its cells is the greatest worth over f, for budgets below `width`
unfoldable pub GreatestRow : (ℕ → Type 0) → (ℕ → ℕ) → ℕ → ℕ → ℕ → (ℕ → ℕ) → Type 0
GreatestRow May f w v width g = (c : ℕ) → c < width → Greatest May f w v c (g c)

-- x is the least count that is worth b
pub record Least (f : ℕ → ℕ) (w v c b x : ℕ) : Type 0 where
  pub made : Worth f w v c x b
  pub fewer : (y : ℕ) → y < x → ¬ Worth f w v c y b

-- g is f with a label of weight w joined to it, for budgets below `width`: a cell that holds the label is made by a rule of what it held and of
-- `less` w places before it. Where `less` is f, the label is used once; where it is g, as often as it may be
pub record Joined (rule : ℕ → ℕ → ℕ) (f less g : ℕ → ℕ) (w width : ℕ) : Type 0 where
  pub short : (c : ℕ) → c < width → c < w → g c ≡ f c
  pub long : (c : ℕ) → c < width → w ≤ c → g c ≡ rule (f c) (less (c - w))

-- t is s with the cells from lo to hi - 1 made one after another, each by a rule of what it held and of the new cell w places before it;
-- the others are kept
pub record Swept (rule : ℕ → ℕ → ℕ) (s t : List ℕ) (w lo hi : ℕ) : Type 0 where
  pub made : (c : ℕ) → lo ≤ c → c < hi → at t c ≡ rule (at s c) (at t (c - w))
  pub before : (c : ℕ) → c < lo → at t c ≡ at s c
  pub past : (c : ℕ) → hi ≤ c → at t c ≡ at s c

-- the rule by which a label of value v is added wherever that is more
abbrev pub raised_by : ℕ → ℕ → ℕ → ℕ
raised_by v without less = max without (less + v)

-- g is f with the label added by it
abbrev pub Raised : (ℕ → ℕ) → (ℕ → ℕ) → (ℕ → ℕ) → ℕ → ℕ → ℕ → Type 0
Raised f less g w v width = Joined (raised_by v) f less g w width

-- t is s with the places to + lo, .. to + hi - 1 written by a rule; all others are kept
pub record Stored (s t : List ℕ) (to lo hi : ℕ) (rule : ℕ → ℕ) : Type 0 where
  pub cells : (c : ℕ) → lo ≤ c → c < hi → at t (to + c) ≡ rule c
  pub before : (k : ℕ) → k < to + lo → at t k ≡ at s k
  pub past : (k : ℕ) → to + hi ≤ k → at t k ≡ at s k

-- of `count` numbers the first is `one`, and the others are `none`
pub record FirstAlone (one none count : ℕ) (l : List ℕ) : Type 0 where
  pub first : at l 0 ≡ one
  pub others : (m : ℕ) → 0 < m → m < count → at l m ≡ none

-- no cell is more than the greatest value for each unit of its budget, so that a label more still fits 32 bits
unfoldable pub Capped : (ℕ → ℕ) → ℕ → Type 0
Capped f width = (c : ℕ) → c < width → f c ≤ most_value * c

-- over whatever row s holds up to one of the label (or none, where none may be picked), t holds up to `most`
unfoldable pub Repeated : List ℕ → List ℕ → ℕ → ℕ → ℕ → ℕ → Type 0
Repeated s t w v width most =
    (f : ℕ → ℕ) → GreatestRow (λ x. x ≤ min 1 most) f w v width (at s) → GreatestRow (λ x. x ≤ most) f w v width (at t)

-- t holds, over s, fewer than m of the label: the next pass may take m at once, which no sum keeps from fitting 32 bits
pub record Bundled (s t : List ℕ) (w v width m : ℕ) : Type 0 where
  pub some_of : 1 ≤ m
  pub few : m < 32
  pub fits : w * m < 4_294_967_296
  pub fewer : GreatestRow (λ x. x ≤ m - 1) (at s) w v width (at t)
  pub capped : Capped (at t) width

-- t is s with the row after the one at `from` made of it and up to `limit` of the label; all other cells are kept
pub record NextRow (s t : List ℕ) (from width w v limit : ℕ) : Type 0 where
  pub made : GreatestRow (λ x. x ≤ limit) (λ c. at s (from + c)) w v width (λ c. at t (from + width + c))
  pub before : (k : ℕ) → k < from + width → at t k ≡ at s k
  pub past : (k : ℕ) → from + width + width ≤ k → at t k ≡ at s k

-- one of the label leads on from budget c, where the row is right with it
unfoldable pub leads_on : (ℕ → ℕ) → ℕ → ℕ → ℕ → Bool
leads_on row w v c = leb w c && eqb (row (c - w) + v) (row c)
