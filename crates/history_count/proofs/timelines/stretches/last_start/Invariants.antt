use Rattle.std.proofs.Common.{◌<◌, length}
use Rattle.history_count.proofs.timelines.stretches.last_start.Given as goal

abbrev pub invariant-loop-b : goal.invariant-loop-b
invariant-loop-b l = l.b < length l.starts

abbrev pub decreases-loop-b : goal.decreases-loop-b
decreases-loop-b l = l.b
