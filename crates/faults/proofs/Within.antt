-- One column, cell by cell: what was passed is kept, and what is carried.
-- Assumes nothing.
use Rattle.std.proofs.Common.{◌≡◌, ℕ, ◌+◌, ◌*◌, ◌<◌, ◌≤◌, max, List, ap, ◌∙◌, suc-mul, lt_of_mul-lt-mul_right, arith}
use native.Mathlib.Decide.{dec_lt}
use Rattle.meaning.specs.Lists.{at}
use Rattle.faults.specs.Columns.{LowWithin, HighWithin}
use Rattle.faults.proofs.Cells.{column_cell, same_cell, same_times}
use Rattle.faults.proofs.Carrying.{Topmost, Carried, top_here, carried_next}

module _ (cells : List ℕ) (prior row end w v b : ℕ) where
  -- the column in the row, and in the row before
  abbrev claims : ℕ → ℕ
  claims e = column_cell cells row b w e

  abbrev others : ℕ → ℕ
  others e = column_cell cells prior b w e

  -- d cells were passed, those before budget c
  pub record ColumnPassed (c carried : ℕ) : Type 0 where
    pub d : ℕ
    pub reached : c ≡ b + d * w
    pub carries : Carried others v d carried
    pub kept : (e count : ℕ) → e + count < d → others e + count * v ≤ claims (e + count)

  module _ (c carried : ℕ) (p : ColumnPassed c carried) (other claim top : ℕ)
      (other-is : other ≡ at cells (prior + c)) (claim-is : claim ≡ at cells (row + c)) (top-is : top ≡ max other carried) where
    -- the cell whose turn it is: the greater is the greatest so far, and the claim is the column's
    topmost : Topmost others v p.d top
    topmost =
        let same : other ≡ others p.d = other-is ∙ same_cell cells prior p.reached in
        top_here others v p.d carried top (top-is ∙ ap (λ (m : ℕ). max m carried) same) p.carries

    claimed : claim ≡ claims p.d
    claimed = claim-is ∙ same_cell cells row p.reached

    pub low_here : c < end → claim < top → LowWithin cells prior row end w v b
    low_here inside low =
        let t = topmost in
        let same : claims (t.e + t.rest) ≡ claims p.d = ap claims t.parts in
        record {
          e = t.e;
          count = t.rest;
          inside = omega (arith, p.reached, same_times w t.parts);
          below = omega (arith, t.by, claimed);
        }

    pub passed_next : top ≤ claim → ColumnPassed (c + w) (top + v)
    passed_next high = record {
      d = p.d + 1;
      reached = omega (arith, p.reached, suc-mul p.d w);
      carries = carried_next others v p.d top topmost;
      kept = λ e count h. elim (dec_lt (e + count) p.d) [
        | yes earlier ↦ p.kept e count earlier
        | no here ↦
            let last : e + count ≡ p.d = omega arith in
            let same : claims (e + count) ≡ claims p.d = ap claims last in
            omega (arith, topmost.bound e count last, claimed)
      ];
    }

  -- the column ends
  pub all_passed : (c carried : ℕ) → end ≤ c → ColumnPassed c carried → HighWithin cells prior row end w v b
  all_passed c carried past p = record { all = λ e count h. p.kept e count (lt_of_mul-lt-mul_right w (omega (arith, p.reached))) }
