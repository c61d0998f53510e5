-- A count and the next in a pass, and all counts where none is left.
-- Assumes nothing.
use Rattle.std.proofs.Common.{◌≡◌, ℕ, ◌+◌, ◌-◌, ◌*◌, ◌<◌, List, ap, subst, mul-le-mul_right, suc-mul, arith}
use native.Mathlib.Decide.{dec_lt}
use Rattle.meaning.specs.Lists.{at}
use Rattle.faults.specs.Columns.{Low, High, HighAt, LowEither, at_first, at_second, HighBoth}

-- the count and the next fit, which is one of at most `copies`
module _ (cells : List ℕ) (prior row width w v copies count : ℕ) (fit : copies * w < width) (two : count < copies) where
  next_weighs : (count + 1) * w ≡ count * w + w
  next_weighs = omega (arith, suc-mul count w)

  room : count * w + w < width
  room = omega (arith, next_weighs, mul-le-mul_right w two)

  -- at the same place stands the same
  next_claim : (from : ℕ) → at cells (row + (from + (count + 1) * w)) ≡ at cells (row + (from + (count * w + w)))
  next_claim from = ap (λ (m : ℕ). at cells (row + (from + m))) next_weighs

  -- a break at either
  pub two_low : LowEither cells prior row (width - count * w - w) (count * w) w (count * v) v → Low cells prior row width w v copies
  two_low (at_first l) = record { from = l.from; count = count; few = omega arith; inside = omega (arith, l.inside, room); below = l.below }
  two_low (at_second l) = record {
    from = l.from;
    count = count + 1;
    few = omega arith;
    inside = omega (arith, l.inside, room, next_weighs);
    below = omega (arith, l.below, next_claim l.from, suc-mul count v);
  }

  -- a count is kept over all budgets where it fits
  abbrev Kept : ℕ → Type 0
  Kept k = HighAt cells prior row (width - k * w) (k * w) (k * v)

  -- those below the two are kept, and so are the two
  pub two_next : HighBoth cells prior row (width - count * w - w) (count * w) w (count * v) v → ((k : ℕ) → k < count → Kept k)
      → (k : ℕ) → k < count + 2 → Kept k
  two_next h before k under =
      elim (dec_lt k count) [
        | yes earlier ↦ before k earlier
        | no late ↦ elim (dec_lt count k) [
          | yes next ↦
              let same : count + 1 ≡ k = omega arith in
              subst Kept same (record {
                all = λ from inside. omega (arith, h.second.all from (omega (arith, next_weighs)), next_claim from, suc-mul count v);
              })
          | no this ↦
              let same : count ≡ k = omega arith in
              subst Kept same (record { all = λ from inside. h.first.all from (omega (arith, room)) })
        ]
      ]

-- what a count weighs, and is worth
pub record CountOf (w v count far gain : ℕ) : Type 0 where
  pub far_is : far ≡ count * w
  pub gain_is : gain ≡ count * v

module _ (cells : List ℕ) (prior row width w v : ℕ) where
  -- the counts below this one are kept
  pub record CountsPassed (count far gain : ℕ) : Type 0 where
    pub this : CountOf w v count far gain
    pub high : (k : ℕ) → k < count → HighAt cells prior row (width - k * w) (k * w) (k * v)

  -- no count is left
  pub counts_all : (copies count far gain : ℕ) → copies < count → CountsPassed count far gain → High cells prior row width w v copies
  counts_all copies count far gain past c = record { all = λ from k few inside. (c.high k (omega arith)).all from (omega arith) }
