use Rattle.potential_check.specs.Footprints.SnapshotSums.{AreMostBlocks}
use Rattle.potential_check.proofs.footprints.snapshot_sums.SnapshotSums.write_most.Given as goal

abbrev pub invariant-loop-t : goal.invariant-loop-t
invariant-loop-t l = record {
  most : AreMostBlocks l.self.history.now.snapshots l.self.spans.now.counts l.self.spans.now.step l.i l.t l.most;
}
