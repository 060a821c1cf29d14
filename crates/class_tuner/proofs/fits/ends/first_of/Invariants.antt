use Rattle.std.proofs.Common.{◌≢◌, ◌-◌, ◌<◌, ◌≤◌, ℕ, slice_index}
use Rattle.class_tuner.specs.Fits.PlaceByPlace.{end_cost}
use Rattle.class_tuner.proofs.fits.ends.first_of.Given as goal

abbrev pub invariant-loop-first : goal.invariant-loop-first
invariant-loop-first l = record {
  from : l.start ≤ l.first;
  within : l.first < l.stop;
  others : (j : ℕ) → l.start ≤ j → j < l.first → l.cost ≢ end_cost l.costs (slice_index l.before) j;
}

abbrev pub decreases-loop-first : goal.decreases-loop-first
decreases-loop-first l = l.stop - l.first
