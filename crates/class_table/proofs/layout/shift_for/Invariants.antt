use Rattle.std.proofs.Common.{◌-◌, ◌≤◌}
use Rattle.class_table.proofs.layout.shift_for.Given as goal

abbrev pub invariant-loop-shift : goal.invariant-loop-shift
invariant-loop-shift l = l.shift ≤ 7

abbrev pub decreases-loop-shift : goal.decreases-loop-shift
decreases-loop-shift l = 7 - l.shift
