use Rattle.replay_theory.proofs.{Hardened.{inside_succeeds}, RunKept.{IsRunWith-run}}
use Rattle.replay_theory.proofs.laws.hardening.law_inside.Goals as goal

pub returns : goal.returns
returns c = λ layout seed quarantine events is. inside_succeeds _ (IsRunWith-run layout seed quarantine events is).sound
