use Rattle.std.proofs.Common.{◌≡◌, ◌+◌, ◌-◌, ◌*◌, ◌≤◌, slice_index}
use Rattle.tuner_theory.specs.{Profiles.{greatest_count}, Waste.{sum_below}}
use Rattle.history_count.proofs.footprint.blocks_between.Given as goal

abbrev pub invariant-loop-k : goal.invariant-loop-k
invariant-loop-k l = record {
  sum : sum_below (slice_index l.column) l.fn.start + l.total ≡ sum_below (slice_index l.column) l.k;
  small : l.total ≤ greatest_count * (l.k - l.fn.start);
}
