use Rattle.std.proofs.Common.{◌<◌, arith}
use Rattle.trace_reader.proofs.SpelledEvents.{event_at_once}
use Rattle.trace_reader.proofs.reader.TraceReader.read_event.Goals as goal

pub returns-clause-event : goal.returns-clause-event
returns-clause-event c =
    let i = c.self.inside in
    let few : i.lines < 1000000 = omega (arith, c.self.invariant.0, c.if-self-eq-MOST_EVENTS.false) in
    event_at_once c.args.self.now i.events i.lines i.rest.items i.status c.in_ok-event.event c.self.view_is c.requires few
    c.in_ok-event.ensures.range
