use Rattle.replay_theory.proofs.AccessAnswers.{accesses_are_answered}
use Rattle.replay_theory.proofs.laws.run.law_accesses.Goals as goal

pub returns-clause-trace : goal.returns-clause-trace
returns-clause-trace c = accesses_are_answered
