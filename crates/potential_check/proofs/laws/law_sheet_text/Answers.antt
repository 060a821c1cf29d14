use Rattle.potential_check.proofs.{ReadIsSpelled.{read_is_spelled}, SheetFaults.{fault_is_first, first_fault_is_reported}}
use Rattle.potential_check.proofs.SpelledIsRead.{spelled_is_read}
use Rattle.potential_check.proofs.laws.law_sheet_text.Goals as goal

pub returns-clause-read : goal.returns-clause-read
returns-clause-read c = read_is_spelled

pub returns-clause-written : goal.returns-clause-written
returns-clause-written c = spelled_is_read

pub returns-clause-first : goal.returns-clause-first
returns-clause-first c = fault_is_first

pub returns-clause-reported : goal.returns-clause-reported
returns-clause-reported c = first_fault_is_reported
