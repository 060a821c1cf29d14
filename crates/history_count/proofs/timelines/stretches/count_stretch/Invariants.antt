use Rattle.std.proofs.Common.{◌≡◌, ℕ, ◌≤◌, slice_index}
use Rattle.tuner_theory.specs.Timelines.{snapshot_at}
use Rattle.history_count.specs.Timelines.Stretches.{Bounds, column_of}
use Rattle.history_count.proofs.timelines.stretches.count_stretch.Given as goal

abbrev pub invariant-loop-k : goal.invariant-loop-k
invariant-loop-k l = record {
  counts : l.counts ≡ column_of l.requested.sizes.items (snapshot_at l.events l.k);
  below : (j : ℕ) → slice_index l.counts j ≤ slice_index l.most j;
  bounds : Bounds l.events l.requested.sizes.items l.fn.from l.k l.most;
}
