use Rattle.std.proofs.Common.{◌≡◌, length}
use Rattle.potential_check.specs.Footprints.SnapshotSums.{AreMostIn}
use Rattle.potential_check.proofs.footprints.snapshot_sums.SnapshotSums.raise_rest.Given as goal

abbrev pub invariant-loop-t : goal.invariant-loop-t
invariant-loop-t l = record {
  size : length l.most ≡ length l.fn.most;
  most : AreMostIn l.self.history.now.snapshots l.self.spans.now.counts l.self.spans.now.step l.i l.start l.stop l.t l.most;
}
