use Rattle.replay_theory.proofs.{Hardened.{live_variables}, RunKept.{IsRunWith-run}}
use Rattle.replay_theory.proofs.laws.hardening.law_own_pointer.Goals as goal

pub returns-clause-variables : goal.returns-clause-variables
returns-clause-variables c = λ layout seed quarantine events is.
    live_variables _ (IsRunWith-run layout seed quarantine events is).sound
