use Rattle.footprint_theory.proofs.LawLemmas.{beginning_is_run, runs_timeline, takes_its_footprint, takes_its_peak}
use Rattle.footprint_theory.proofs.laws.law_heap_footprint.Goals as goal

pub returns-clause-timeline : goal.returns-clause-timeline
returns-clause-timeline c = runs_timeline

pub returns-clause-beginnings : goal.returns-clause-beginnings
returns-clause-beginnings c = beginning_is_run

pub returns-clause-slots : goal.returns-clause-slots
returns-clause-slots c = takes_its_peak

pub returns-clause-bytes : goal.returns-clause-bytes
returns-clause-bytes c = takes_its_footprint
