use Rattle.trace_reader.proofs.{LineRanges.{few_events}, SpelledLines.{IfOk-event_of_line}}
use Rattle.trace_reader.proofs.line.event_in.Goals as goal

pub returns-clause-range : goal.returns-clause-range
returns-clause-range c = rw c.judged_line.ensures (IfOk-event_of_line c.args.number c.args.line.now)

pub returns-clause-few : goal.returns-clause-few
returns-clause-few c = rw c.judged_line.ensures (few_events c.args.number c.args.line.now)
