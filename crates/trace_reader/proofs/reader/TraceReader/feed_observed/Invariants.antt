use Rattle.std.proofs.Common.{length}
use Rattle.trace_reader.specs.Reached.{IsOnTheWay}
use Rattle.trace_reader.proofs.reader.TraceReader.feed_observed.Given as goal

abbrev pub invariant-loop-line : goal.invariant-loop-line
invariant-loop-line g l = record {
  way : IsOnTheWay l.fn.self l.piece l.self l.text;
  seen : g.O.Observer.has_seen l.fn.observer l.fn.self.events → g.O.Observer.has_seen l.observer l.self.events;
}

abbrev pub decreases-loop-line : goal.decreases-loop-line
decreases-loop-line g l = length l.text
