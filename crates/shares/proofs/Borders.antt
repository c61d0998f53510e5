-- Kind 7: the border. The labels at it or before it, and the first of those next behind it, are those that get a unit.
-- Assumes nothing.
use mathlib.Core.Path.{◌≡◌, refl, sym, ap, subst, ◌∙◌}
use mathlib.Core.Logic.{inl, inr}
use Prim.Native.Nat.{ℕ, zero, suc, ◌+◌, ◌-◌, ◌≤◌, ◌<◌}
use native.Mathlib.Decide.{ℕ_discrete}
use native.Mathlib.Nat.{le_refl}
use native.Mathlib.Omega.{arith}
use mathlib.Core.Bool.{Bool, true, false, ◌&&◌}
use lib.Dec.{T, ltb, eqb}
use mir.Facts.{leb_yes, yes_leb}
use mir.Val.{bool_byte}
use borrow.Author.Tests.{eq-eqb, ne_eqb, lt-ltb, le-ltb, le-leb, lt-leb}
use Rattle.meaning.specs.Lists.{sum, up_to, if, tally}
use Rattle.meaning.specs.Job.{Job, labels}
use Rattle.meaning.specs.Shares.{start_of, share_of, remainder_of, spare_of, precedes, rank_of}
use Rattle.meaning.proofs.UpTo.{up_to_in}
use Rattle.meaning.proofs.Tally.{tally_le, tally_lt, tally_all, tally_none, tally_each, tally_step, tally_more, tally_most}
use Rattle.meaning.proofs.Ranks.{precedes_out, precedes_in, not_self}
use Rattle.meaning.proofs.SharesSum.{sum_over, spare_few}
use Rattle.rows.proofs.Stores.{by}
use Rattle.shares.proofs.Starts.{remainder_within, share_given}
use Rattle.shares.specs.Borders.{ahead_of, ahead_in, behind_in, Reaches, count_of, behind_of, gets_of, NoLower, RunOut}

module _ (j : Job) where
  abbrev rem : ℕ → ℕ
  rem = remainder_of j

  abbrev n : ℕ
  n = labels j

  abbrev S : ℕ
  S = sum j.weights

  -- ---- the order: what `ahead_of` says, and six laws of it and `precedes`. Nothing after them looks at the text of either

  ahead_out : (border i : ℕ) → T (ahead_in j border i) → border ≤ rem i
  unfolding ahead_of
  ahead_out border i t = leb_yes t

  ahead_in_lem : (border i : ℕ) → border ≤ rem i → T (ahead_in j border i)
  unfolding ahead_of
  ahead_in_lem border i l = yes_leb l

  -- first law: who stands at a border or before it does so at a lower one
  lower_border : (lower border i : ℕ) → lower ≤ border → T (ahead_in j border i) → T (ahead_in j lower i)
  lower_border lower border i h t = ahead_in_lem lower i (omega (arith, ahead_out border i t))

  -- second law: who goes before a label that stands there stands there too
  before_ahead : (border i m : ℕ) → T (ahead_in j border i) → T (precedes j m i) → T (ahead_in j border m)
  before_ahead border i m t p =
      let l = ahead_out border i t in
      ahead_in_lem border m (elim (precedes_out j m i p) [ inl a ↦ omega arith | inr b ↦ omega arith ])

  -- third law: who stands at the border that a label is next behind, or before it, goes before the label
  ahead_before : (i m : ℕ) → T (ahead_in j (rem i + 1) m) → T (precedes j m i)
  ahead_before i m t = precedes_in j m i (inl (omega (arith, ahead_out (rem i + 1) m t)))

  -- fourth law: of the labels with lower numbers, these and those next behind it go before the label
  front_step : (i m : ℕ) → m < i → if (precedes j m i) 1 0 ≡ if (ahead_in j (rem i + 1) m) 1 0 + if (behind_in j (rem i + 1) m) 1 0
  unfolding precedes ahead_of if
  front_step i m h =
      by (rem i) (rem m)
      (λ l. rw (lt-ltb (rem i) (rem m) l, le-leb (rem i + 1) (rem m) (omega arith), ne_eqb (rem m + 1) (rem i + 1) (λ e. omega arith)))
      (λ ge. rw (le-ltb (rem i) (rem m) ge, lt-leb (rem i + 1) (rem m) (omega arith), lt-ltb m i h) (go (ℕ_discrete (rem m) (rem i))))
    where
      go : Dec (rem m ≡ rem i) → ◌≡◌ {A = ℕ} (if (eqb (rem m) (rem i) && true) 1 0) (0 + if (eqb (rem m + 1) (rem i + 1)) 1 0)
      go (yes e) = rw (eq-eqb (rem m) (rem i) e, eq-eqb (rem m + 1) (rem i + 1) (omega arith))
      go (no ne) = rw (ne_eqb (rem m) (rem i) ne, ne_eqb (rem m + 1) (rem i + 1) (λ e. ne (omega arith)))

  -- fifth law: of the others, these alone
  rest_step : (i m : ℕ) → i ≤ m → ◌≡◌ {A = ℕ} (if (precedes j m i) 1 0) (if (ahead_in j (rem i + 1) m) 1 0)
  unfolding precedes ahead_of if
  rest_step i m h =
      by (rem i) (rem m) (λ l. rw (lt-ltb (rem i) (rem m) l, le-leb (rem i + 1) (rem m) (omega arith)))
      (λ ge. rw (le-ltb (rem i) (rem m) ge, lt-leb (rem i + 1) (rem m) (omega arith), le-ltb m i h) (go (eqb (rem m) (rem i))))
    where
      go : (e : Bool) → ◌≡◌ {A = ℕ} (if (e && false) 1 0) 0
      go true = refl
      go false = refl

  -- sixth law: a test of two numbers that passes and fails with the code's
  same_test : (r border a b : ℕ) → (border ≤ r → a < b) → (r < border → b ≤ a) → ahead_of r border ≡ ltb a b
  unfolding ahead_of
  same_test r border a b pass fail =
      by r border (λ l. lt-leb border r l ∙ sym (le-ltb a b (fail l))) (λ g. le-leb border r g ∙ sym (lt-ltb a b (pass g)))

  -- ---- labels counted as a loop does: those at a border or before it, and those next behind it

  pub ahead_more : (border i count rest : ℕ) (b : Bool) → b ≡ ahead_of rest border → rest ≡ rem i → count ≡ tally (ahead_in j border) (up_to i)
      → count + bool_byte b ≡ tally (ahead_in j border) (up_to (i + 1))
  ahead_more border i count rest b test e = tally_more (ahead_in j border) i count b (test ∙ ap (λ (r : ℕ). ahead_of r border) e)

  pub behind_none : (border : ℕ) → 0 ≡ behind_of j border 0
  unfolding behind_of up_to tally
  behind_none border = refl

  pub behind_more : (border i seen rest : ℕ) → rest ≡ rem i → seen ≡ behind_of j border i
      → seen + bool_byte (eqb (rest + 1) border) ≡ behind_of j border (i + 1)
  unfolding behind_of
  behind_more border i seen rest e = tally_more (behind_in j border) i seen (eqb (rest + 1) border) (ap (λ (r : ℕ). eqb (r + 1) border) e)

  pub behind_most : (border i : ℕ) → behind_of j border i ≤ i
  unfolding behind_of
  behind_most border i = tally_most (behind_in j border) i

  -- ---- ranks

  front_rank : (i k : ℕ) → k ≤ i → tally (λ m. precedes j m i) (up_to k) ≡ tally (ahead_in j (rem i + 1)) (up_to k) + behind_of j (rem i + 1) k
  unfolding up_to tally behind_of
  front_rank i zero h = refl
  front_rank i (suc k) h =
      omega (
        arith,
        tally_step (λ m. precedes j m i) k,
        tally_step (ahead_in j (rem i + 1)) k,
        tally_step (behind_in j (rem i + 1)) k,
        front_rank i k (omega arith),
        front_step i k h,
      )

  rest_rank : (i k : ℕ) → i ≤ k → tally (λ m. precedes j m i) (up_to k) ≡ tally (ahead_in j (rem i + 1)) (up_to k) + behind_of j (rem i + 1) i
  rest_rank i zero h = let e : i ≡ 0 = omega arith in rw e (front_rank 0 0 (le_refl 0))
  rest_rank i (suc k) h =
      by k i (λ less. let e : i ≡ suc k = omega arith in rw e (front_rank (suc k) (suc k) (le_refl (suc k))))
      (λ more. omega (arith, tally_step (λ m. precedes j m i) k, tally_step (ahead_in j (rem i + 1)) k, rest_rank i k more, rest_step i k more))

  -- a label next behind a border goes after those at it or before it, and after those next behind it with lower numbers
  behind_rank : (border i : ℕ) → rem i + 1 ≡ border → i < n → rank_of j i ≡ count_of j border + behind_of j border i
  unfolding rank_of count_of
  behind_rank border i e h = subst (λ (b : ℕ). rank_of j i ≡ count_of j b + behind_of j b i) e (rest_rank i n (omega arith))

  -- of the labels at a border or before it, not all go before one of them
  high_rank : (border i : ℕ) → border ≤ rem i → i < n → rank_of j i < count_of j border
  unfolding rank_of count_of
  high_rank border i l h =
      let t = ahead_in_lem border i l in
      tally_lt (λ m. precedes j m i) (ahead_in j border) (up_to n) (λ m p. before_ahead border i m t p) i (up_to_in n i h) t (not_self j i)

  -- all of them go before one next behind it
  low_rank : (i : ℕ) → count_of j (rem i + 1) ≤ rank_of j i
  unfolding rank_of count_of
  low_rank i = tally_le (ahead_in j (rem i + 1)) (λ m. precedes j m i) (up_to n) (λ m t. ahead_before i m t)

  -- who gets a unit: one at the border or before it, and one next behind it while fewer than `left` such were seen
  pub gets_served : (border left : ℕ) → RunOut j border left → (i seen : ℕ) → i < n → seen ≡ behind_of j border i
      → gets_of (rem i) border seen left ≡ ltb (rank_of j i) (spare_of j)
  unfolding gets_of if
  gets_served border left out i seen h counted =
      by seen left (λ some. rw (lt-ltb seen left some) (one some)) (λ none. rw (le-ltb seen left none) (no_more none))
    where
      next : rem i + 1 ≡ border → rank_of j i ≡ count_of j border + seen
      next e = omega (arith, behind_rank border i e h)

      high : border ≤ rem i → rank_of j i < spare_of j
      high l = omega (arith, high_rank border i l h, out.whole)

      low : rem i + 1 < border → spare_of j ≤ rank_of j i
      low l = omega (arith, low_rank i, out.no_lower.enough (rem i + 1) l)

      one : seen < left → ahead_of (rem i + 1) border ≡ ltb (rank_of j i) (spare_of j)
      one some =
          same_test (rem i + 1) border (rank_of j i) (spare_of j)
          (λ l. by (rem i) border (λ less. omega (arith, next (omega arith), out.whole)) high)
          low

      no_more : left ≤ seen → ahead_of (rem i + 0) border ≡ ltb (rank_of j i) (spare_of j)
      no_more none =
          same_test (rem i + 0) border (rank_of j i) (spare_of j)
          (λ l. high (omega arith))
          (λ l. by (rem i + 1) border low (λ le. omega (arith, next (omega arith), out.whole)))

  -- a start, and the unit that its label gets or not
  pub unit_given : (border left : ℕ) → RunOut j border left → (i seen start rest : ℕ) (b : Bool) → i < n → seen ≡ behind_of j border i
      → start ≡ start_of j i → rest ≡ rem i → b ≡ gets_of rest border seen left → start + bool_byte b ≡ share_of j i
  unit_given border left out i seen start rest b h counted begun is got =
      share_given j i start b begun (got ∙ ap (λ (r : ℕ). gets_of r border seen left) is ∙ gets_served border left out i seen h counted)

  -- ---- where the units run out

  -- where enough labels stand at a border or before it, the units don't run out below the next
  pub next_lowest : (border count : ℕ) → count ≡ count_of j border → spare_of j ≤ count → NoLower j (border + 1)
  unfolding count_of
  next_lowest border count e h = record {
    enough = λ lower l. omega (arith, tally_le (ahead_in j border) (ahead_in j lower) (up_to n) (λ i t. lower_border lower border i (omega arith) t));
  }

  module _ (claimed least greatest : ℕ) (summed : claimed ≡ S) (pos : 0 < claimed) (reach : Reaches j n 0 claimed least greatest) where
    least_or_more : (i : ℕ) → i < n → least ≤ rem i
    least_or_more i h = reach.above i h (omega arith)

    greatest_or_less : (i : ℕ) → i < n → rem i ≤ greatest
    greatest_or_less i h = reach.below i h (omega (arith, remainder_within j i (omega arith)))

    -- not at the least remainder or below
    pub not_at_least : NoLower j (least + 1)
    unfolding spare_of sum_over labels count_of
    not_at_least = record {
      enough =
          λ lower l. omega (arith, spare_few j (omega arith), tally_all (ahead_in j lower) n (λ i h. ahead_in_lem lower i (omega (arith, least_or_more i h))));
    }

    -- past the greatest stands none
    pub none_found : 0 ≡ count_of j (greatest + 1)
    unfolding count_of
    none_found = sym (tally_none (ahead_in j (greatest + 1)) n (λ i h t. omega (arith, greatest_or_less i h, ahead_out (greatest + 1) i t)))

    pub some_span : 0 < spare_of j → least < greatest + 1
    unfolding spare_of sum_over labels
    some_span some = let one : 0 < n = omega (arith, spare_few j (omega arith)) in omega (arith, least_or_more 0 one, greatest_or_less 0 one)

  -- where no label stands between two numbers, the ends of the halving may be moved past them
  module _ (low high least greatest : ℕ) (near : Reaches j n low high least greatest) where
    -- who stands at the low border or before it has a remainder that isn't below the least
    least_ahead : (lower i : ℕ) → i < n → lower ≤ least → T (ahead_in j low i) → T (ahead_in j lower i)
    least_ahead lower i h l t = ahead_in_lem lower i (omega (arith, near.above i h (ahead_out low i t)))

    -- who has a remainder above the greatest stands at the high border or before it
    above_ahead : (border i : ℕ) → i < n → greatest < border → T (ahead_in j border i) → T (ahead_in j high i)
    above_ahead border i h l t = ahead_in_lem high i (by (rem i) high (λ k. absurd (omega (arith, near.below i h k, ahead_out border i t))) (λ g. g))

    pub low_up : NoLower j (low + 1) → NoLower j (least + 1)
    unfolding count_of
    low_up lowest = record {
      enough = λ lower l.
          by lower (low + 1) (lowest.enough lower)
          (λ g.
          omega (
            arith,
            lowest.enough low (omega arith),
            tally_each (ahead_in j low) (ahead_in j lower) n (λ i h t. least_ahead lower i h (omega arith) t),
          ));
    }

    pub high_down : count_of j high ≡ count_of j (greatest + 1)
    unfolding count_of
    high_down =
        omega (
          arith,
          tally_le (ahead_in j high) (ahead_in j (greatest + 1)) (up_to n) (λ i t. lower_border (greatest + 1) high i (omega (arith, near.within)) t),
          tally_each (ahead_in j (greatest + 1)) (ahead_in j high) n (λ i h t. above_ahead (greatest + 1) i h (omega arith) t),
        )

    pub still_some : count_of j high < spare_of j → NoLower j (low + 1) → least < greatest + 1
    unfolding count_of
    still_some few lowest =
        by greatest least
        (λ l.
        absurd (omega (
          arith,
          lowest.enough low (omega arith),
          tally_each (ahead_in j low) (ahead_in j high) n (λ i h t. above_ahead least i h l (least_ahead least i h (le_refl least) t)),
        )))
        (λ g. omega arith)

  -- when the halving ends, they run out at the high border
  module _ (low high found spare : ℕ) (units : spare ≡ spare_of j) (counted : found ≡ count_of j high) (fits : found ≤ spare)
      (lowest : NoLower j (low + 1)) where
    pub none_between : high ≤ low + 1 → RunOut j high (spare - found)
    none_between h = record { whole = omega arith; no_lower = record { enough = λ lower l. lowest.enough lower (omega arith) } }

    pub just_enough : spare ≤ found → RunOut j high (spare - found)
    just_enough h =
        let next = next_lowest high found counted (omega arith) in
        record { whole = omega arith; no_lower = record { enough = λ lower l. next.enough lower (omega arith) } }
