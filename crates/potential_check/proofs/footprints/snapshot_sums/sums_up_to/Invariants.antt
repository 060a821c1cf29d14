use Rattle.std.proofs.Common.{◌≡◌, ℕ, ◌<◌, ◌≤◌, length, slice_index}
use Rattle.potential_check.proofs.FootprintLemmas.UpTo.{AreSumsBefore}
use Rattle.tuner_theory.specs.Waste.{sum_below}
use Rattle.potential_check.proofs.footprints.snapshot_sums.sums_up_to.Given as goal

abbrev pub invariant-loop-p : goal.invariant-loop-p
invariant-loop-p l = record {
  sums : AreSumsBefore l.column l.cuts l.p l.sums.items;
  total : l.total ≡ sum_below (slice_index l.column) l.start;
  inside : l.start ≤ length l.column;
  order : (q : ℕ) → l.p ≤ q → q < length l.cuts → l.start ≤ slice_index l.cuts q;
}
