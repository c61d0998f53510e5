-- `verdicts::most_picks` meets its contract, by the knapsack that the kind is taken for.
use mathlib.Core.Path.{◌≡◌, sym, ap, ◌∙◌}
use Prim.Native.Nat.{ℕ}
use native.Mathlib.Omega.{arith}
use Rattle.meaning.specs.Job.{Job, Knapsack, job_of}
use Rattle.meaning.specs.Certificates.{most_picks}
use Rattle.verdicts.proofs.Taken.{taken_once, taken_limited, taken_free}
use Rattle.verdicts.proofs.most_picks.Goals as goal

-- the most picks of a knapsack that the kind's is
abbrev most_by : (j : Job) (i : ℕ) {k s : Knapsack} → k ≡ s → most_picks s j i ≡ most_picks k j i
most_by j i e = sym (ap (λ (k : Knapsack). most_picks k j i) e)

pub returns-in-1 : goal.returns-in-1
unfolding most_picks
returns-in-1 c = most_by _ c.args.i (taken_once _ c.in-1.is)

pub returns-in-3 : goal.returns-in-3
unfolding most_picks
returns-in-3 c = c.most_of_one.ensures ∙ most_by _ _ (taken_free _ c.in-3.is)

pub at-requires : goal.at-requires
at-requires c = c.requires (taken_limited _ (λ e. absurd (omega arith)) (λ e. absurd (omega arith)))

pub returns-in_default : goal.returns-in_default
unfolding most_picks job_of
returns-in_default c = c.at.ensures ∙ most_by _ c.args.i (taken_limited _ (λ e. absurd (omega arith)) (λ e. absurd (omega arith)))
