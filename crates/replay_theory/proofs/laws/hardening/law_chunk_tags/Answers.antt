use Rattle.replay_theory.proofs.{Hardened.{chunk_tags_not_zero, chunk_tags_of_two}, RunKept.{IsRunWith-run}}
use Rattle.replay_theory.proofs.laws.hardening.law_chunk_tags.Goals as goal

pub returns-clause-not_zero : goal.returns-clause-not_zero
returns-clause-not_zero c = λ layout seed quarantine events is. chunk_tags_not_zero _ (IsRunWith-run layout seed quarantine events is).sound

pub returns-clause-differ : goal.returns-clause-differ
returns-clause-differ c = λ layout seed quarantine events is. chunk_tags_of_two _ (IsRunWith-run layout seed quarantine events is).sound
