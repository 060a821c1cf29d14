use Rattle.std.proofs.Common.{◌≡◌, ◌+◌, ◌-◌, ◌^◌, ◌<◌, ◌≤◌, ℕ, slice_index}
use Rattle.class_tuner.specs.Fits.{Ends.{IsReached}, PlaceByPlace.{end_cost}}
use Rattle.class_tuner.proofs.fits.ends.least_of_block.Given as goal

abbrev pub invariant-loop-k : goal.invariant-loop-k
invariant-loop-k l = record {
  low : (m : ℕ) → l.start ≤ m → m < l.start + l.k → l.low ≤ end_cost l.costs (slice_index l.before) m;
  none : l.k ≡ 0 → l.low ≡ 2 ^ 64 - 1;
  reached : 0 < l.k → IsReached (end_cost l.costs (slice_index l.before)) l.start (l.start + l.k) l.low;
}
