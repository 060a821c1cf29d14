use Rattle.std.proofs.Common.{◌≡◌, ◌+◌, ◌<◌, ◌≤◌, ℕ, slice_index}
use Rattle.class_tuner.specs.Fits.{PlaceByPlace.{end_cost}}
use Rattle.class_tuner.proofs.fits.ends.look_at_first.Given as goal

abbrev pub invariant-loop-j : goal.invariant-loop-j
invariant-loop-j l = record {
  bound : l.below ≤ l.least + 1;
  low : (m : ℕ) → l.start ≤ m → m < l.j → l.below ≤ end_cost l.costs (slice_index l.before) m;
  value : l.below ≤ l.least → l.below ≡ end_cost l.costs (slice_index l.before) l.first;
  from : l.below ≤ l.least → l.start ≤ l.first;
  within : l.below ≤ l.least → l.first < l.j;
  first : l.below ≤ l.least → (m : ℕ) → l.start ≤ m → m < l.first → l.below < end_cost l.costs (slice_index l.before) m;
}
