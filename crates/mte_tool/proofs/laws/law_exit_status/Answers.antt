use Rattle.mte_tool.proofs.Exits.{answer_law, check_fit_law, check_law, quiet_law, shown_law}
use Rattle.mte_tool.proofs.laws.law_exit_status.Goals as goal

pub returns-clause-check : goal.returns-clause-check
returns-clause-check c = check_law

pub returns-clause-check_fit : goal.returns-clause-check_fit
returns-clause-check_fit c = check_fit_law

pub returns-clause-answer : goal.returns-clause-answer
returns-clause-answer c = answer_law

pub returns-clause-shown : goal.returns-clause-shown
returns-clause-shown c = shown_law

pub returns-clause-quiet : goal.returns-clause-quiet
returns-clause-quiet c = quiet_law
