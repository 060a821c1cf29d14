use Rattle.std.proofs.Common.{◌-◌, ◌<◌, ◌≤◌, length}
use Rattle.potential_check.specs.Footprints.SnapshotSums.{AreWritten}
use Rattle.potential_check.proofs.footprints.snapshot_sums.SnapshotSums.write_narrow.Given as goal

abbrev pub invariant-loop-start : goal.invariant-loop-start
invariant-loop-start l = record {
  after : l.i < l.start;
  within : l.start ≤ length l.costs;
  written : AreWritten l.self.history.now.snapshots l.self.spans.now.counts l.self.spans.now.step l.i l.start l.costs;
}

abbrev pub decreases-loop-start : goal.decreases-loop-start
decreases-loop-start l = length l.costs - l.start
