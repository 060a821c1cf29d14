use Rattle.footprint_theory.proofs.LawLemmas.{fit_bounds_heaps, fit_takes_its_cost, least_takes_least}
use Rattle.footprint_theory.proofs.laws.law_least.Goals as goal

pub returns-clause-least : goal.returns-clause-least
returns-clause-least c = least_takes_least

pub returns-clause-fit : goal.returns-clause-fit
returns-clause-fit c = fit_takes_its_cost

pub returns-clause-bound : goal.returns-clause-bound
returns-clause-bound c = fit_bounds_heaps
