use Rattle.std.proofs.Common.{◌≡◌, ◌*◌, length}
use Rattle.potential_check.specs.Footprints.SnapshotSums.{AreMostIn}
use Rattle.potential_check.proofs.footprints.snapshot_sums.SnapshotSums.raise_some.Given as goal

abbrev pub invariant-loop-e : goal.invariant-loop-e
invariant-loop-e l = record {
  size : length l.most ≡ length l.fn.most;
  most : AreMostIn l.self.history.now.snapshots l.self.spans.now.counts l.self.spans.now.step l.i l.start l.stop (8 * l.e) l.most;
}
