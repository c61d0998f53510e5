-- Two counts in one pass: the code's test of both, budget by budget, and the budgets where only the first fits.
-- Assumes nothing.
use Rattle.std.proofs.Common.{◌≡◌, ℕ, ◌+◌, ◌-◌, ◌%◌, ◌<◌, ◌≤◌, Bool, true, false, ◌||◌, ltb, List, sym, refl, ap, ◌∙◌, ap₂, arith, le-ltb, lt-ltb}
use native.Mathlib.Decide.{dec_lt}
use mathlib.Core.Bool.{or-true}
use Rattle.meaning.specs.Lists.{at}
use Rattle.faults.specs.Columns.{Finds, LowAt, HighAt, LowEither, at_first, at_second, HighBoth}
use Rattle.faults.proofs.Finding.{finds_low, finds_high}
use Rattle.faults.proofs.Passes.{below_sum, FoundSoFar, pass_next}

-- ---- the code's test without a sum

-- a claim that is no less than the greater value wraps by neither
pub below_either : (claim near gain other more rest less : ℕ) → gain ≤ more → claim < 4_294_967_296 → rest < 4_294_967_296 → less < 4_294_967_296
    → (rest + gain) % 4_294_967_296 ≡ claim → (less + more) % 4_294_967_296 ≡ claim
    → ((ltb claim more || ltb rest near) || ltb less other) ≡ (ltb claim (near + gain) || ltb claim (other + more))
below_either claim near gain other more rest less order claim-fits rest-fits less-fits rest-is less-is =
    elim (dec_lt claim more) [
      | yes small ↦ rw (lt-ltb claim more small, lt-ltb claim (other + more) (omega arith)) (sym (or-true (ltb claim (near + gain))))
      | no large ↦
          let by-rest = below_sum claim near gain rest claim-fits rest-fits rest-is in
          let by_less = below_sum claim other more less claim-fits less-fits less-is in
          let first : ltb rest near ≡ ltb claim (near + gain) = rw (le-ltb claim gain (omega arith)) at by-rest in
          let second : ltb less other ≡ ltb claim (other + more) = rw (le-ltb claim more (omega arith)) at by_less in
          rw (le-ltb claim more (omega arith)) (ap₂ ◌||◌ first second)
    ]

-- ---- budget by budget

-- over the budgets where both fit: what a pass for each would tell, together
pub record BothFound (r : Bool) (cells : List ℕ) (prior row left far w gain v : ℕ) : Type 0 where
  pub low_near : Bool
  pub low_far : Bool
  pub together : r ≡ (low_near || low_far)
  pub near : FoundSoFar cells (prior + w) (row + w) far gain low_near left
  pub distant : FoundSoFar cells prior row (far + w) (gain + v) low_far left

-- the two tests of a budget, each put to its own
four_ors : (a b x y : Bool) → ((a || b) || (x || y)) ≡ ((a || x) || (b || y))
four_ors true b x y = refl
four_ors false true x y = sym (or-true x)
four_ors false false x y = refl

module _ (cells : List ℕ) (prior row far w gain v : ℕ) where
  pub pair_next : (c : ℕ) (low below : Bool) (claim near other : ℕ)
      → below ≡ (ltb claim (near + gain) || ltb claim (other + (gain + v)))
      → claim ≡ at cells (row + (far + w) + c) → near ≡ at cells (prior + w + c) → other ≡ at cells (prior + c)
      → BothFound low cells prior row c far w gain v → BothFound (low || below) cells prior row (c + 1) far w gain v
  pair_next c low below claim near other below_is claim-is near-is other-is t =
      let by_near : row + (far + w) + c ≡ row + w + far + c = omega arith in
      record {
        low_near = t.low_near || ltb claim (near + gain);
        low_far = t.low_far || ltb claim (other + (gain + v));
        together =
            ap₂ ◌||◌ t.together below_is
            ∙ four_ors t.low_near t.low_far (ltb claim (near + gain)) (ltb claim (other + (gain + v)));
        near = pass_next cells (prior + w) (row + w) far gain c t.low_near _ claim near refl (claim-is ∙ ap (at cells) by_near) near-is t.near;
        distant = pass_next cells prior row (far + w) (gain + v) c t.low_far _ claim other refl claim-is other-is t.distant;
      }

-- ---- all budgets

module _ (cells : List ℕ) (prior row left far w gain v : ℕ) where
  -- a break at a later one
  heavy_low : LowAt cells (prior + w) (row + w) left far gain → LowAt cells prior row (left + w) far gain
  heavy_low l =
      let claim : row + w + (l.from + far) ≡ row + (w + l.from + far) = omega arith in
      let source : prior + w + l.from ≡ prior + (w + l.from) = omega arith in
      record {
        from = w + l.from;
        inside = omega (arith, l.inside);
        below = omega (arith, l.below, ap (at cells) claim, ap (at cells) source);
      }

  -- the first is kept there, and past them
  joined : HighAt cells prior row w far gain → HighAt cells (prior + w) (row + w) left far gain → HighAt cells prior row (left + w) far gain
  joined light heavy = record {
    all = λ from inside. elim (dec_lt from w) [
      | yes early ↦ light.all from early
      | no late ↦
          let c = from - w in
          let claim : row + w + (c + far) ≡ row + (from + far) = omega arith in
          let source : prior + w + c ≡ prior + from = omega arith in
          omega (arith, heavy.all c (omega arith), ap (at cells) claim, ap (at cells) source)
    ];
  }

  pub two_found : HighAt cells prior row w far gain → (r : Bool) → BothFound r cells prior row left far w gain v
      → Finds r (LowEither cells prior row left far w gain v) (HighBoth cells prior row left far w gain v)
  two_found light r t = by t.low_near t.low_far t.together t.near t.distant
    where
      by : (a b : Bool) → r ≡ (a || b)
          → FoundSoFar cells (prior + w) (row + w) far gain a left → FoundSoFar cells prior row (far + w) (gain + v) b left
          → Finds r (LowEither cells prior row left far w gain v) (HighBoth cells prior row left far w gain v)
      by true b e near distant = rw e (finds_low (at_first (heavy_low (near.broken refl))))
      by false true e near distant = rw e (finds_low (at_second (distant.broken refl)))
      by false false e near distant = rw e (finds_high (record { first = joined light (near.kept refl); second = distant.kept refl }))
