use Rattle.std.proofs.Common.{◌≡◌, ◌+◌, ◌-◌, ◌*◌, ◌/◌, ◌^◌, ◌<◌, ◌≤◌, length, slice_index}
use Rattle.class_tuner.specs.Fits.{Ends.{IsLeastSoFar}, PlaceByPlace.{end_cost}}
use Rattle.potential_check.specs.{Footprints.Bounds.{AreBounds}, declared.footprints.slack.TheConstants.{BLOCK}}
use Rattle.class_tuner.proofs.fits.ends.least_end.Given as goal

abbrev pub invariant-loop-block : goal.invariant-loop-block
invariant-loop-block l = record {
  bounds : AreBounds l.costs l.slack l.place (length l.before) (slice_index l.before) l.bounds;
  least : IsLeastSoFar (end_cost l.costs (slice_index l.before)) l.place (BLOCK * l.block) (length l.before) l.end;
  value : l.least ≡ end_cost l.costs (slice_index l.before) l.end;
  small : l.least ≤ 2 ^ 60;
  after : (l.place + 1) / BLOCK < l.block;
}

abbrev pub decreases-loop-block : goal.decreases-loop-block
decreases-loop-block l = l.blocks - l.block
