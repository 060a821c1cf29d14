use Rattle.replay_theory.proofs.RunKept.{IsRunWith-run}
use Rattle.replay_theory.proofs.laws.run.law_states.Goals as goal

pub returns : goal.returns
returns c = λ layout seed quarantine events is. (IsRunWith-run layout seed quarantine events is).sound
