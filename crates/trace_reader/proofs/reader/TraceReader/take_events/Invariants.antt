use Rattle.std.proofs.Common.{◌≡◌, ◌≤◌, length, true}
use Rattle.trace_reader.specs.{Reached.{IsOnTheWay}, Reading.{is_at_start}}
use Rattle.trace_reader.proofs.reader.TraceReader.take_events.Given as goal

abbrev pub invariant-loop-count : goal.invariant-loop-count
invariant-loop-count g l = record {
  way : IsOnTheWay l.fn.self l.text l.self l.rest;
  start : is_at_start l.self ≡ true;
  shorter : length l.rest ≤ length l.text;
  seen : g.O.Observer.has_seen l.fn.observer l.fn.self.events → g.O.Observer.has_seen l.observer l.self.events;
}

abbrev pub decreases-loop-count : goal.decreases-loop-count
decreases-loop-count g l = length l.rest
