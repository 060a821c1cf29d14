use Rattle.std.proofs.Common.{◌+◌, ◌-◌, ◌*◌, ◌/◌, ◌<◌, ◌≤◌, ℕ, length, slice_index}
use Rattle.potential_check.specs.{Footprints.Bounds.{AreBounds}, declared.footprints.slack.TheConstants.{BLOCK}}
use Rattle.potential_check.proofs.footprints.row_tests.edge_holds_at.Given as goal

abbrev pub invariant-loop-block : goal.invariant-loop-block
invariant-loop-block l = record {
  bounds : AreBounds l.costs l.slack l.i (length l.before) (slice_index l.before) l.bounds;
  within : (j : ℕ) → l.i < j → j < BLOCK * l.block → j < length l.before
      → l.number ≤ slice_index l.costs j + slice_index l.before j;
  after : (l.i + 1) / BLOCK < l.block;
}

abbrev pub decreases-loop-block : goal.decreases-loop-block
decreases-loop-block l = l.blocks - l.block
