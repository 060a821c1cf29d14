use Rattle.std.proofs.Common.{◌≡◌, ℕ, ◌*◌, ◌<◌, ◌≤◌, length, slice_index, slice_index_or}
use Rattle.class_table.specs.Counts.{AreAtMost}
use Rattle.class_table.proofs.counts.counts_at.Given as goal

abbrev pub invariant-loop-place : goal.invariant-loop-place
invariant-loop-place l = record {
  long : length l.counts ≡ 1024;
  last : AreAtMost l.numbers (l.step * l.place) l.count;
  each : (k : ℕ) → k < l.place → AreAtMost l.numbers (l.step * k) (slice_index l.counts k);
  above : (p k d : ℕ) → p < l.place → slice_index l.counts p ≤ k → k < length l.numbers → l.step * p < slice_index_or l.numbers k d;
}
