use Rattle.tuner_theory.proofs.Sheets.{optimal_is_best}
use Rattle.tuner_theory.proofs.laws.law_optimal_is_best.Goals as goal

pub returns : goal.returns
returns c = optimal_is_best
