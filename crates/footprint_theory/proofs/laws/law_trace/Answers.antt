use Rattle.footprint_theory.proofs.Traces.{replay_is_calls, replay_takes_its_footprint}
use Rattle.footprint_theory.proofs.laws.law_trace.Goals as goal

pub returns-clause-heap : goal.returns-clause-heap
returns-clause-heap c = replay_is_calls

pub returns-clause-bytes : goal.returns-clause-bytes
returns-clause-bytes c = replay_takes_its_footprint
