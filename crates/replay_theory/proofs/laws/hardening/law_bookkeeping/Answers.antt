use Rattle.replay_theory.proofs.{Hardened.{bookkeeping_out_of_reach, null_or_tagged}, RunKept.{IsRunWith-run}}
use Rattle.replay_theory.proofs.laws.hardening.law_bookkeeping.Goals as goal

pub returns-clause-variables : goal.returns-clause-variables
returns-clause-variables c = λ layout seed quarantine events is. null_or_tagged _ (IsRunWith-run layout seed quarantine events is).sound

pub returns-clause-faults : goal.returns-clause-faults
returns-clause-faults c =
    λ layout seed quarantine events is. bookkeeping_out_of_reach _ (IsRunWith-run layout seed quarantine events is).sound
