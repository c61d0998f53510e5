-- The light table beside the full one: a bit is set exactly where the full table's cell is above that of the row before it.
-- Assumes nothing.
use Prim.Native.Nat.{◌<◌, ◌≤◌, suc, ℕ}
use native.Mathlib.Omega.{arith}
use mathlib.Core.Path.{◌≡◌}
use Rattle.meaning.specs.Job.{Job, once}
use Rattle.meaning.specs.Knapsacks.{BestValue}
use Rattle.meaning.specs.Sums.{Tells, is_not, is_so}
use Rattle.meaning.specs.Light.{Raises}
use Rattle.meaning.proofs.OneOfEach.{best_value_unique}

-- between two best values a label raises the first exactly where the second is above it
pub raises_by : (j : Job) (m c a b y : ℕ) → BestValue once j m c a → BestValue once j (suc m) c b → c ≤ j.budget → Tells (a < b) y
    → Tells (Raises j m c) y
raises_by j m c a b y best-a best-b within (is_so above e) =
    is_so (record { without = a; with = b; best_without = best-a; best_with = best-b; above = above; within = within }) e
raises_by j m c a b y best-a best-b within (is_not not-above e) =
    is_not (λ r. not-above (rw (best_value_unique best-a r.best_without, best_value_unique best-b r.best_with) r.above)) e

-- above C it raises nothing
pub raises_none : (j : Job) (m c y : ℕ) → j.budget < c → y ≡ 0 → Tells (Raises j m c) y
raises_none j m c y past e = is_not (λ r. absurd (omega (arith, r.within))) e
