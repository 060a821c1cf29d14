use Rattle.mte_engine.proofs.OneAnswer.{one_either, one_fitted, one_run, one_tune}
use Rattle.mte_engine.proofs.laws.law_one_answer.Goals as goal

pub returns-clause-tune : goal.returns-clause-tune
returns-clause-tune c = one_tune

pub returns-clause-fit : goal.returns-clause-fit
returns-clause-fit c = one_fitted

pub returns-clause-fit_either : goal.returns-clause-fit_either
returns-clause-fit_either c = one_either

pub returns-clause-run : goal.returns-clause-run
returns-clause-run c = one_run
