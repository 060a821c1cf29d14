use Rattle.std.proofs.{Common.{arith}, lemmas.Grind.{common_steps}}
use Rattle.potential_check.proofs.row_conditions.edges_hold.Goals as goal

pub returns-else-is_tight_row : goal.returns-else-is_tight_row
returns-else-is_tight_row c = grind (arith, common_steps)
