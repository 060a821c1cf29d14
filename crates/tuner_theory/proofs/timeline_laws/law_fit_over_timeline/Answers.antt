use Rattle.tuner_theory.proofs.Timelines.{fit_bounds_timeline, least_over_timeline}
use Rattle.tuner_theory.proofs.timeline_laws.law_fit_over_timeline.Goals as goal

pub returns-clause-bound : goal.returns-clause-bound
returns-clause-bound c = fit_bounds_timeline

pub returns-clause-least : goal.returns-clause-least
returns-clause-least c = least_over_timeline
