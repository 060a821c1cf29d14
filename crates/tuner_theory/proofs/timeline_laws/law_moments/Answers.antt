use Rattle.tuner_theory.proofs.{TimelineCanonical.{canonical_over}, TimelineSteps.{largest_is_live, requested_sizes}}
use Rattle.tuner_theory.proofs.Timelines.{moments_are_snapshots, some_moments_take_less}
use Rattle.tuner_theory.proofs.timeline_laws.law_moments.Goals as goal

pub returns-clause-history : goal.returns-clause-history
returns-clause-history c = moments_are_snapshots

pub returns-clause-less : goal.returns-clause-less
returns-clause-less c = some_moments_take_less

pub returns-clause-sizes : goal.returns-clause-sizes
returns-clause-sizes c = requested_sizes

pub returns-clause-largest : goal.returns-clause-largest
returns-clause-largest c = largest_is_live

pub returns-clause-table : goal.returns-clause-table
returns-clause-table c = canonical_over
