-- `rows::bundle` meets its contract: a row with fewer than m of the label holds fewer than twice as many, once m are raised (`greatest_part`).
use Prim.Native.Nat.{◌-◌}
use lib.ListN.{length}
use Rattle.rows.specs.Rows.{Bundled}
use Rattle.rows.proofs.bundle.Given as goal

abbrev pub invariant-loop-m : goal.invariant-loop-m
invariant-loop-m l = Bundled l.initial.row l.row l.w l.v (length l.initial.row) l.m

abbrev pub decreases-loop-m : goal.decreases-loop-m
decreases-loop-m l = 32 - l.m
