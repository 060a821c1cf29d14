use Rattle.trace_reader.proofs.TraceSpelling.{fault_is_after_its_events, spelled_trace_is_read, text_spells_one_trace, trace_is_spelled}
use Rattle.trace_reader.proofs.laws.law_trace_text.Goals as goal

pub returns-clause-spelled : goal.returns-clause-spelled
returns-clause-spelled c = trace_is_spelled

pub returns-clause-read : goal.returns-clause-read
returns-clause-read c = spelled_trace_is_read

pub returns-clause-one : goal.returns-clause-one
returns-clause-one c = text_spells_one_trace

pub returns-clause-fault : goal.returns-clause-fault
returns-clause-fault c = fault_is_after_its_events
