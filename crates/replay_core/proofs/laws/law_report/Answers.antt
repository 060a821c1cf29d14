use Rattle.replay_core.proofs.StoredMore.{lines_of_none, lines_of_one_more, report_is_lines_and_totals, stored_of_none, stored_of_one_more}
use Rattle.replay_core.proofs.laws.law_report.Goals as goal

pub returns-clause-first : goal.returns-clause-first
returns-clause-first c = stored_of_none

pub returns-clause-stored : goal.returns-clause-stored
returns-clause-stored c = stored_of_one_more

pub returns-clause-none : goal.returns-clause-none
returns-clause-none c = lines_of_none

pub returns-clause-one_more : goal.returns-clause-one_more
returns-clause-one_more c = lines_of_one_more

pub returns-clause-whole : goal.returns-clause-whole
returns-clause-whole c = report_is_lines_and_totals
