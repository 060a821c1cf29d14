use Rattle.std.proofs.Common.{◌≡◌, ℕ, ◌+◌, ◌-◌, ◌*◌, ◌<◌, ◌≤◌, length, slice_index}
use Rattle.history_count.specs.CountedLines.{IsCutAt}
use Rattle.tuner_theory.specs.Spans.{need_at}
use Rattle.potential_check.proofs.footprints.snapshot_sums.cuts.Given as goal

abbrev pub invariant-loop-place : goal.invariant-loop-place
invariant-loop-place l = record {
  size : length l.cuts.items + 1 ≡ l.place;
  each : (p : ℕ) → p + 1 < l.place → IsCutAt l.sizes (slice_index l.cuts.items p) (16 * need_at l.spans.counts l.spans.step (p + 1) - 15);
  within : l.line ≤ length l.sizes;
  below : (k : ℕ) → k < l.line → slice_index l.sizes k < 16 * need_at l.spans.counts l.spans.step (l.place - 1) - 15;
}
