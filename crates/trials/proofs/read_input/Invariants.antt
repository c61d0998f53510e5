-- `trials::read_input` meets its contract: the loop goes up to the end of the slice.
use Rattle.std.proofs.Common.{◌≡◌, ◌-◌, ◌≤◌, length}
use Rattle.trials.proofs.read_input.Given as goal

abbrev pub invariant-loop-filled : goal.invariant-loop-filled
invariant-loop-filled g l = (length l.input ≡ length l.initial.input) × (l.filled ≤ length l.input)

abbrev pub decreases-loop-filled : goal.decreases-loop-filled
decreases-loop-filled g l = length l.initial.input - l.filled
