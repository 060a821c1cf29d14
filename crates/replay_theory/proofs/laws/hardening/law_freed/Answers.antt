use Rattle.replay_theory.proofs.{Hardened.{freed_faults}, RunKept.{IsRunWith-run}}
use Rattle.replay_theory.proofs.laws.hardening.law_freed.Goals as goal

pub returns : goal.returns
returns c = λ layout seed quarantine events is. freed_faults _ (IsRunWith-run layout seed quarantine events is).sound
