use Rattle.replay_theory.proofs.{Hardened.{neighbours_fault}, RunKept.{IsRunWith-run}}
use Rattle.replay_theory.proofs.laws.hardening.law_neighbours.Goals as goal

pub returns : goal.returns
returns c = λ layout seed quarantine events is. neighbours_fault _ (IsRunWith-run layout seed quarantine events is).sound
