use Rattle.std.proofs.Common.{List, ℕ, length}
use Rattle.mte_engine.specs.Traces.{CountsFront, KeepsCounts}
use Rattle.mte_engine.proofs.profiling.CountedTraceInput.take.Given as goal

abbrev pub invariant-loop-line : goal.invariant-loop-line
invariant-loop-line l =
    (bytes : List ℕ) → KeepsCounts l.fn.self.reader l.fn.self.profile bytes → CountsFront bytes l.piece l.self.reader l.self.profile l.text

abbrev pub decreases-loop-line : goal.decreases-loop-line
decreases-loop-line l = length l.text
