use Rattle.heap_theory.proofs.GranuleKinds.{is_of_its_kind}
use Rattle.heap_theory.proofs.laws.heap.law_kinds.Goals as goal

pub returns : goal.returns
returns c = is_of_its_kind
