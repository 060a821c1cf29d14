use Rattle.std.proofs.{Common.{arith}, lemmas.Grind.{common_steps}}
use Rattle.potential_check.proofs.edge_walk.first_edges_hold.Goals as goal

pub loop-j-preserved : goal.loop-j-preserved
loop-j-preserved c = grind (arith, common_steps)
