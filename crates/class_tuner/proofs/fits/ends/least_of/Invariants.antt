use Rattle.std.proofs.Common.{◌≡◌, ◌-◌, ◌^◌, ◌<◌, ◌≤◌, ℕ, slice_index}
use Rattle.class_tuner.specs.Fits.{Ends.{IsReached}, PlaceByPlace.{end_cost}}
use Rattle.class_tuner.proofs.fits.ends.least_of.Given as goal

abbrev pub invariant-loop-j : goal.invariant-loop-j
invariant-loop-j l = record {
  low : (m : ℕ) → l.start ≤ m → m < l.j → l.low ≤ end_cost l.costs (slice_index l.before) m;
  none : l.j ≤ l.start → l.low ≡ 2 ^ 64 - 1;
  reached : l.start < l.j → IsReached (end_cost l.costs (slice_index l.before)) l.start l.j l.low;
}
