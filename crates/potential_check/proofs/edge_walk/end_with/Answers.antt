use Rattle.std.proofs.Common.{arith}
use Rattle.potential_check.proofs.CertificateLemmas.LawLemmas.{payload_fits}
use Rattle.potential_check.proofs.edge_walk.end_with.Goals as goal

pub overflow_mul-result : goal.overflow_mul-result
overflow_mul-result c = grind (arith, payload_fits)

pub overflow_add-result : goal.overflow_add-result
overflow_add-result c = grind (arith, payload_fits)
