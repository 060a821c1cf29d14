use Rattle.footprint_theory.proofs.{Existence.{a_run}, Room.{granules_suffice, run_gets_a_slot}}
use Rattle.footprint_theory.proofs.laws.law_room.Goals as goal

pub returns-clause-request : goal.returns-clause-request
returns-clause-request c = run_gets_a_slot

pub returns-clause-run : goal.returns-clause-run
returns-clause-run c = a_run

pub returns-clause-granules : goal.returns-clause-granules
returns-clause-granules c = granules_suffice
