use Rattle.std.proofs.Common.{◌≡◌, ℕ, suc, ◌<◌, ◌≤◌, slice_index}
use Rattle.potential_check.specs.Footprints.Bounds.{AreRowBounds}
use Rattle.class_tuner.specs.Fits.PlaceByPlace.{AreRowsSoFar, IsPlaceFilled}
use Rattle.tuner_theory.specs.{Lists.{lists_of}, Rows.{number_at}}
use Rattle.class_tuner.proofs.fits.place.fill_place.Given as goal

abbrev pub invariant-loop-k : goal.invariant-loop-k
invariant-loop-k l = record {
  rows : AreRowsSoFar l.places l.limit (lists_of l.rows) (lists_of l.ends);
  filled : IsPlaceFilled l.costs l.places l.place l.k (lists_of l.fn.rows) (lists_of l.rows) (lists_of l.fn.ends) (lists_of l.ends);
  number : l.above.0 ≡ number_at (lists_of l.rows) l.k l.place;
  end : l.above.1 ≡ number_at (lists_of l.ends) l.k l.place;
  small : l.above.0 ≤ slice_index l.costs l.places;
  order : l.alike ≤ l.here;
  alike : (m : ℕ) → l.here ≤ m → m < l.k → number_at (lists_of l.rows) (suc m) l.place ≡ number_at (lists_of l.rows) m l.place;
  bounds : AreRowBounds l.costs l.slack l.place l.places l.limit (number_at (lists_of l.fn.rows)) (lists_of l.bounds);
}
