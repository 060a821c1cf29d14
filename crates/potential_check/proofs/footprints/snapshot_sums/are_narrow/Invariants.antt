use Rattle.std.proofs.Common.{ℕ, ◌<◌, ◌^◌, slice_index, IsTrue}
use Rattle.potential_check.proofs.footprints.snapshot_sums.are_narrow.Given as goal

abbrev pub invariant-loop-j : goal.invariant-loop-j
invariant-loop-j l = record { below : IsTrue l.are_narrow → (k : ℕ) → k < l.j → slice_index l.numbers k < 2 ^ 32 }
