-- Answers with what stands behind them.
-- Assumes nothing.
use Rattle.std.proofs.Common.{◌≡◌, ℕ, Bool, true, false, sym, refl, arith}
use Rattle.faults.specs.Columns.{Finds}

-- the two answers differ
never : true ≡ false → ⊥
never e = let z : ◌≡◌ {A = ℕ} 0 1 = cc in omega arith

pub finds_low : {Broken Kept : Type 0} → Broken → Finds true Broken Kept
finds_low x = record { broken = λ e. x; kept = λ e. absurd (never e) }

pub finds_high : {Broken Kept : Type 0} → Kept → Finds false Broken Kept
finds_high x = record { broken = λ e. absurd (never (sym e)); kept = λ e. x }

-- the same answer to another question
pub finds_as : (r : Bool) {Broken Kept Broken' Kept' : Type 0} → (Broken → Broken') → (Kept → Kept') → Finds r Broken Kept → Finds r Broken' Kept'
finds_as r f g t = record { broken = λ e. f (t.broken e); kept = λ e. g (t.kept e) }

-- the answer is the one that either leaves
pub finds_is : (r answer : Bool) {Broken Kept : Type 0} → (Broken → answer ≡ true) → (Kept → answer ≡ false) → Finds r Broken Kept → r ≡ answer
finds_is true answer f g t = sym (f (t.broken refl))
finds_is false answer f g t = sym (g (t.kept refl))
