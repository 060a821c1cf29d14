use Rattle.std.proofs.Common.{length}
use Rattle.history_count.proofs.Filling.{EndsSoFar}
use Rattle.history_count.proofs.line.end.Given as goal

abbrev pub invariant-loop-read : goal.invariant-loop-read
invariant-loop-read l = EndsSoFar l.fn.words l.words l.is_too_long

abbrev pub decreases-loop-read : goal.decreases-loop-read
decreases-loop-read l = length l.words
