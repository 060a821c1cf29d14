use Rattle.history_count.proofs.FirstFaults.{first_fault_is_refused, lines_before_it_spell, refused_line_is_there}
use Rattle.history_count.proofs.{ReadIsSpelled.{history_is_spelled}, SpelledIsRead.{spelled_history_is_read}}
use Rattle.history_count.proofs.laws.law_history_text.Goals as goal

pub returns-clause-read : goal.returns-clause-read
returns-clause-read c = history_is_spelled

pub returns-clause-written : goal.returns-clause-written
returns-clause-written c = spelled_history_is_read

pub returns-clause-first : goal.returns-clause-first
returns-clause-first c = first_fault_is_refused

pub returns-clause-line : goal.returns-clause-line
returns-clause-line c = refused_line_is_there

pub returns-clause-before : goal.returns-clause-before
returns-clause-before c = lines_before_it_spell
