use Rattle.std.proofs.Common.{◌≡◌, ℕ, ◌<◌, ◌≤◌, IsTrue, slice_index}
use Rattle.profile_count.proofs.counted_sizes.is_none_counted.Given as goal

abbrev pub invariant-loop-n : goal.invariant-loop-n
invariant-loop-n l = record {
  none : IsTrue l.is_none → (k : ℕ) → l.start ≤ k → k < l.n → slice_index l.counts k ≡ 0;
}
