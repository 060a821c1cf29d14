use Rattle.std.proofs.Common.{arith}
use Rattle.potential_check.proofs.row_conditions.tightest_end.Goals as goal

pub returns-clause-least : goal.returns-clause-least
returns-clause-least c = omega arith
