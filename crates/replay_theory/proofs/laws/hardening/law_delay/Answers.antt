use Rattle.replay_theory.proofs.{Lives.{reuse_is_delayed}, RunKept.{IsRunWith-run}}
use Rattle.replay_theory.proofs.laws.hardening.law_delay.Goals as goal

pub returns : goal.returns
returns c = λ layout seed quarantine events e is.
    let run_is = (IsRunWith-run layout seed quarantine events is) in reuse_is_delayed _ e run_is.sound quarantine run_is.limit_is
