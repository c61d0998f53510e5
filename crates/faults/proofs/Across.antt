-- From the cells of one block of a column into the next, cell by cell: what was passed is kept, and the least claim is carried.
-- Assumes nothing.
use Rattle.std.proofs.Common.{◌≡◌, ℕ, ◌+◌, ◌-◌, ◌*◌, ◌<◌, ◌≤◌, min, List, ap, ◌∙◌, suc-mul, lt_of_mul-lt-mul_right, le_of_mul-le-mul_right, arith}
use native.Mathlib.Decide.{dec_lt}
use Rattle.meaning.specs.Lists.{at}
use Rattle.faults.specs.Columns.{Low, HighAcross}
use Rattle.faults.proofs.Cells.{column_cell, same_cell, same_times, parts_times}
use Rattle.faults.proofs.Carrying.{LeastClaim, least_inside, least_outside}

module _ (cells : List ℕ) (prior row width w v copies a : ℕ) where
  -- where all copies lead
  abbrev b : ℕ
  b = a + copies * w

  -- the column in the row, from there on, and in the row before
  abbrev claims : ℕ → ℕ
  claims e = column_cell cells row b w e

  abbrev others : ℕ → ℕ
  others e = column_cell cells prior a w e

  -- claim e is in the row
  abbrev InRow : ℕ → Type 0
  InRow e = b + e * w < width

  -- d cells were passed, those before budget x
  pub record Crossed (x least : ℕ) : Type 0 where
    pub d : ℕ
    pub x_is : x ≡ a + d * w
    pub carries : LeastClaim claims InRow v d least
    pub small : least ≤ 4_294_967_296 * (d + 1)
    pub kept : (e short : ℕ) → e + short < d → InRow e → others (e + short) + copies * v ≤ claims e + short * v

  module _ (x least : ℕ) (c : Crossed x least) where
    module _ (before : x < b) where
      -- cells are left, so what is carried fits the code's numbers
      fewer : c.d < copies
      fewer = lt_of_mul-lt-mul_right w (omega (arith, c.x_is))

      module _ (other : ℕ) (other-is : other ≡ at cells (prior + x)) where
        -- the least claim is too low for the cell x, wherever it was found
        pub crossed_low : least < other + copies * v → Low cells prior row width w v copies
        crossed_low low =
            let l = c.carries in
            let count = copies - l.rest in
            let all : count + l.rest ≡ copies = omega (arith, l.parts, fewer) in
            let weigh = parts_times w count l.rest copies all in
            let down = parts_times w l.e l.rest c.d l.parts in
            let to : x + count * w ≡ b + l.e * w = omega (arith, c.x_is) in
            record {
              from = x;
              count = count;
              few = omega arith;
              inside = omega (arith, l.inside);
              below = omega (arith, l.by, parts_times v count l.rest copies all, same_cell cells row to);
            }

        -- no claim is too low for the cell x
        module _ (high : other + copies * v ≤ least) where
          kept_next : (e short : ℕ) → e + short < c.d + 1 → InRow e → others (e + short) + copies * v ≤ claims e + short * v
          kept_next e short h i =
              elim (dec_lt (e + short) c.d) [
                | yes earlier ↦ c.kept e short earlier i
                | no here ↦
                    let last : e + short ≡ c.d = omega arith in
                    let from : a + (e + short) * w ≡ x = omega (arith, c.x_is, same_times w last) in
                    omega (arith, c.carries.bound e short last i, same_cell cells prior from)
              ]

          crossed_next : (next : ℕ) → LeastClaim claims InRow v (c.d + 1) next → next ≤ least + 4_294_967_296 → Crossed (x + w) next
          crossed_next next carries more = record {
            d = c.d + 1;
            x_is = omega (arith, c.x_is, suc-mul c.d w);
            carries = carries;
            small = omega (arith, c.small);
            kept = kept_next;
          }

          -- the next claim is all copies up from the next cell
          module _ (v-fits : v ≤ 4_294_967_295) (y : ℕ) (y_is : y ≡ x + copies * w + w) where
            next_y : y ≡ b + (c.d + 1) * w
            next_y = omega (arith, y_is, c.x_is, suc-mul c.d w)

            -- it is past the row's end
            pub crossed_outside : width ≤ y → Crossed (x + w) (least + v)
            crossed_outside out =
                crossed_next (least + v) (least_outside claims InRow v c.d least c.carries (λ i. omega (arith, next_y))) (omega arith)

            -- it is in the row
            pub crossed_inside : (next claim : ℕ) → y < width → claim ≡ at cells (row + y) → next ≡ min claim (least + v) → Crossed (x + w) next
            crossed_inside next claim inside claim-is next-is =
                let is : next ≡ min (claims (c.d + 1)) (least + v) =
                next-is ∙ ap (λ (m : ℕ). min m (least + v)) (claim-is ∙ same_cell cells row next_y) in
                crossed_next next (least_inside claims InRow v c.d least c.carries next is (omega (arith, next_y))) (omega arith)

    -- no cell is left
    pub all_crossed : 1 ≤ w → b ≤ x → HighAcross cells prior row width w v copies a
    all_crossed weighs past =
        let reached : copies ≤ c.d = le_of_mul-le-mul_right (omega (arith, c.x_is)) weighs in
        record { all = λ e short h i. c.kept e short (omega arith) i }
