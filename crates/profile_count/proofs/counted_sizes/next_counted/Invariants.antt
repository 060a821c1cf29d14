use Rattle.std.proofs.Common.{◌≡◌, ◌-◌, ◌<◌, ◌≤◌, ℕ, length, slice_index}
use Rattle.profile_count.proofs.counted_sizes.next_counted.Given as goal

abbrev pub invariant-loop-n : goal.invariant-loop-n
invariant-loop-n l = record {
  order : l.from ≤ l.n;
  within : l.from ≤ length l.counts → l.n ≤ length l.counts;
  passed : (k : ℕ) → l.from ≤ k → k < l.n → slice_index l.counts k ≡ 0;
}

abbrev pub decreases-loop-n : goal.decreases-loop-n
decreases-loop-n l = length l.counts - l.n

abbrev pub invariant-loop-n-2 : goal.invariant-loop-n-2
invariant-loop-n-2 l = record {
  order : l.from ≤ l.n;
  within : l.from ≤ length l.counts → l.n ≤ length l.counts;
  passed : (k : ℕ) → l.from ≤ k → k < l.n → slice_index l.counts k ≡ 0;
}

abbrev pub decreases-loop-n-2 : goal.decreases-loop-n-2
decreases-loop-n-2 l = length l.counts - l.n
