use Rattle.potential_check.specs.Footprints.SnapshotSums.{AreScaled}
use Rattle.potential_check.proofs.footprints.snapshot_sums.SnapshotSums.write_wide.Given as goal

abbrev pub invariant-loop-j : goal.invariant-loop-j
invariant-loop-j l = record {
  scaled : AreScaled l.self.history.now.snapshots l.self.spans.now.counts l.self.spans.now.step l.i l.j l.costs;
}
