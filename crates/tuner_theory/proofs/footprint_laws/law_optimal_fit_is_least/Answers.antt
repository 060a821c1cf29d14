use Rattle.tuner_theory.proofs.FootprintLawLemmas.{optimal_fit_is_least}
use Rattle.tuner_theory.proofs.footprint_laws.law_optimal_fit_is_least.Goals as goal

pub returns : goal.returns
returns c = optimal_fit_is_least
