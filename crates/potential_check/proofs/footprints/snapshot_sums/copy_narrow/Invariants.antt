use Rattle.std.proofs.Common.{◌≡◌, ℕ, ◌<◌, length, slice_index}
use Rattle.potential_check.proofs.footprints.snapshot_sums.copy_narrow.Given as goal

abbrev pub invariant-loop-j : goal.invariant-loop-j
invariant-loop-j l = record {
  size : length l.row ≡ length l.numbers;
  copied : (k : ℕ) → k < l.j → slice_index l.row k ≡ slice_index l.numbers k;
}
