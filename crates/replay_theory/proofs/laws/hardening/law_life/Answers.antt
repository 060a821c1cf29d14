use Rattle.replay_theory.proofs.{Lives.{lives_on}, RunKept.{IsRunWith-run}}
use Rattle.replay_theory.proofs.laws.hardening.law_life.Goals as goal

pub returns : goal.returns
returns c = λ layout seed quarantine events e is. lives_on _ e (IsRunWith-run layout seed quarantine events is).sound
