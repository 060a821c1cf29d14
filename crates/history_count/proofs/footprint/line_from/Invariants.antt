use Rattle.std.proofs.Common.{ℕ, ◌-◌, ◌<◌, ◌≤◌, length, slice_index}
use Rattle.history_count.proofs.footprint.line_from.Given as goal

abbrev pub invariant-loop-line : goal.invariant-loop-line
invariant-loop-line l = record {
  order : l.fn.start ≤ l.line;
  within : l.line ≤ length l.sizes;
  below : (k : ℕ) → k < l.line → slice_index l.sizes k < l.end;
}

abbrev pub decreases-loop-line : goal.decreases-loop-line
decreases-loop-line l = length l.sizes - l.line
