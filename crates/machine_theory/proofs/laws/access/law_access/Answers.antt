use Rattle.machine_theory.proofs.AccessLaws.{tag_fault_names}
use Rattle.machine_theory.proofs.laws.access.law_access.Goals as goal

pub returns-clause-tag : goal.returns-clause-tag
returns-clause-tag c = tag_fault_names
