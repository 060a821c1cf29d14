use Rattle.history_count.proofs.Filling.{FillsSoFar}
use Rattle.history_count.proofs.line.fill.Given as goal

abbrev pub invariant-loop-place : goal.invariant-loop-place
invariant-loop-place l = FillsSoFar l.fn.words l.words l.place l.counts
