use Rattle.std.proofs.Common.{arith}
use Rattle.potential_check.proofs.footprints.snapshot_sums.SnapshotSums.raise_some.Goals as goal

pub loop-e-preserved : goal.loop-e-preserved
loop-e-preserved c = grind arith
