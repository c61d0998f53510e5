-- `verdicts::over_picked` meets its contract: the labels before have no more picks than they may.
use mathlib.Core.Path.{◌≡◌}
use mathlib.Core.Option.{none}
use Prim.Native.Nat.{ℕ}
use mathlib.Core.Bool.{Bool}
use mathlib.Core.List.{List}
use lib.Dec.{ltb}
use Rattle.meaning.specs.Lists.{at}
use Rattle.meaning.specs.Certificates.{first, most_picks}
use Rattle.numbers.specs.declared.Job.{Job as Came}
use Rattle.verdicts.specs.Asked.{certified, knapsack_in}
use Rattle.verdicts.proofs.over_picked.Given as goal

-- label i has more picks than it may
abbrev pub over : Came → List ℕ → ℕ → Bool
over job picks i = ltb (most_picks (knapsack_in job.kind) (certified job) i) (at picks i)

abbrev pub invariant-loop-i : goal.invariant-loop-i
invariant-loop-i l = first (over l.job l.picks) l.i ≡ none
