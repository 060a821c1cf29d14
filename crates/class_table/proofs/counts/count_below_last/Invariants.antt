use Rattle.std.proofs.Common.{◌-◌, length}
use Rattle.class_table.specs.Counts.{AreAtMost}
use Rattle.class_table.proofs.counts.count_below_last.Given as goal

abbrev pub invariant-numbers : goal.invariant-numbers
invariant-numbers l = AreAtMost l.numbers l.n l.count

abbrev pub decreases-numbers : goal.decreases-numbers
decreases-numbers l = length l.numbers - l.count
