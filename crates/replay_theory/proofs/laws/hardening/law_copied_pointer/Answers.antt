use Rattle.replay_theory.proofs.{CopiedPointers.{addg_copies, subg_copies}, RunKept.{IsRunWith-run}}
use Rattle.replay_theory.proofs.laws.hardening.law_copied_pointer.Goals as goal

pub returns-clause-addg : goal.returns-clause-addg
returns-clause-addg c = λ layout seed quarantine events is. addg_copies _ (IsRunWith-run layout seed quarantine events is).sound

pub returns-clause-subg : goal.returns-clause-subg
returns-clause-subg c = λ layout seed quarantine events is. subg_copies _ (IsRunWith-run layout seed quarantine events is).sound
