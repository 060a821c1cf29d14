use Rattle.tuner_theory.proofs.Spans.{needs_cross, nothing_between, places_cross}
use Rattle.tuner_theory.proofs.laws.law_crossing_spans.Goals as goal

pub returns-clause-needs : goal.returns-clause-needs
returns-clause-needs c = needs_cross

pub returns-clause-places : goal.returns-clause-places
returns-clause-places c = places_cross

pub returns-clause-nothing : goal.returns-clause-nothing
returns-clause-nothing c = nothing_between
