use Rattle.history_count.proofs.TimelineLemmas.FirstFaults.{first_fault_is_refused, refused_line_is_there}
use Rattle.history_count.proofs.TimelineLemmas.LineByLine.{spelled_timeline_is_read, timeline_is_spelled}
use Rattle.history_count.proofs.laws.timelines.law_timeline_text.Goals as goal

pub returns-clause-read : goal.returns-clause-read
returns-clause-read c = timeline_is_spelled

pub returns-clause-written : goal.returns-clause-written
returns-clause-written c = spelled_timeline_is_read

pub returns-clause-first : goal.returns-clause-first
returns-clause-first c = first_fault_is_refused

pub returns-clause-line : goal.returns-clause-line
returns-clause-line c = refused_line_is_there
