use Rattle.class_table.proofs.FirstFaults.{faulty_text_is_refused, first_fault_is_refused, missing_line_is_first_fault}
use Rattle.class_table.proofs.FirstFaults.{refused_text_has_first_fault}
use Rattle.class_table.proofs.Spelled.{line_alone_is_read, read_line_is_spelled, spelled_table_is_read, table_is_spelled}
use Rattle.class_table.proofs.laws.law_class_line.Goals as goal

pub returns-clause-read : goal.returns-clause-read
returns-clause-read c = table_is_spelled

pub returns-clause-written : goal.returns-clause-written
returns-clause-written c = spelled_table_is_read

pub returns-clause-line : goal.returns-clause-line
returns-clause-line c = line_alone_is_read

pub returns-clause-spelled : goal.returns-clause-spelled
returns-clause-spelled c = read_line_is_spelled

pub returns-clause-first : goal.returns-clause-first
returns-clause-first c = first_fault_is_refused

pub returns-clause-missing : goal.returns-clause-missing
returns-clause-missing c = missing_line_is_first_fault

pub returns-clause-text : goal.returns-clause-text
returns-clause-text c = refused_text_has_first_fault

pub returns-clause-refused : goal.returns-clause-refused
returns-clause-refused c = faulty_text_is_refused
