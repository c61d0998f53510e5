-- Whether one of a label leads on, as facts about the row.
-- Assumes nothing.
use mathlib.Core.Path.{◌≡◌}
use Prim.Native.Nat.{ℕ, ◌+◌, ◌-◌, ◌≤◌}
use mathlib.Core.Bool.{Bool, true, false, ◌&&◌}
use lib.Dec.{T, leb, eqb}
use mir.Facts.{and_yes, eqb_yes, leb_yes, yes_and, yes_eqb, yes_leb}
use Rattle.rows.specs.Rows.{leads_on}

-- a label that is light enough, and a test of the row
module _ (w c : ℕ) (test : Bool) where
  pub light_true : (leb w c && test) ≡ true → (w ≤ c) × T test
  light_true e =
      let both : T (leb w c && test) = rw e tt in
      let (light, on) = and_yes (leb w c) test both in
      (leb_yes light, on)

  pub light_false : (leb w c && test) ≡ false → w ≤ c → ¬ T test
  light_false e light on = let both : T (leb w c && test) = yes_and (leb w c) test (yes_leb light) on in rw e at both

pub leads_true : (row : ℕ → ℕ) (w v c : ℕ) → leads_on row w v c ≡ true → (w ≤ c) × (row (c - w) + v ≡ row c)
unfolding leads_on
leads_true row w v c e = let (light, on) = light_true w c (eqb (row (c - w) + v) (row c)) e in (light, eqb_yes on)

pub leads_false : (row : ℕ → ℕ) (w v c : ℕ) → leads_on row w v c ≡ false → w ≤ c → ¬ (row (c - w) + v ≡ row c)
unfolding leads_on
leads_false row w v c e light on = light_false w c (eqb (row (c - w) + v) (row c)) e light (yes_eqb on)
