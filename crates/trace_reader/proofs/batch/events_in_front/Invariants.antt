use Rattle.std.proofs.Common.{◌≡◌, ◌≤◌, ◌-◌, ◌++◌, All, List, length, take, map}
use Rattle.trace_event.specs.{Ranges.{IsInRange}, declared.event.Event.{Event}}
use Rattle.trace_reader.specs.{Kept.{event_of}, TraceLine.{event_lines}}
use Rattle.trace_reader.proofs.batch.events_in_front.Given as goal

abbrev pub invariant-lines : goal.invariant-lines
invariant-lines g l = record {
  lines : l.text ≡ event_lines (map event_of (take l.count l.batch)) ++ l.rest;
  range : All IsInRange (map event_of (take l.count l.batch));
  few : l.count ≤ l.most;
  room : length l.batch ≡ length l.fn.batch;
  seen : (events : List Event) → g.O.Observer.has_seen l.fn.observer events
      → g.O.Observer.has_seen l.observer (events ++ map event_of (take l.count l.batch));
}

abbrev pub decreases-lines : goal.decreases-lines
decreases-lines g l = l.most - l.count
