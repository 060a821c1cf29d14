use Rattle.std.proofs.Common.{◌≡◌, ◌<◌, ℕ, length, slice_index}
use Rattle.potential_check.proofs.footprints.snapshot_sums.clear.Given as goal

abbrev pub invariant-loop-j : goal.invariant-loop-j
invariant-loop-j l = record {
  size : length l.numbers ≡ length l.fn.numbers;
  zeros : (k : ℕ) → k < l.j → slice_index l.numbers k ≡ 0;
}
